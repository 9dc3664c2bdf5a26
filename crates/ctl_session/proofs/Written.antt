-- What a writer took, piece by piece.
use Rattle.std.proofs.Common.{◌≡◌, ℕ, ◌+◌, ◌-◌, List, Option, take, drop, length, arith}
use Rattle.std.specs.Io.KnownBytes.{Appends}
use Rattle.std.proofs.KnownBytes.{Appends-trans}
use Rattle.std.proofs.Math.Seq.{take-add}
use Rattle.std.proofs.lemmas.List.{take_all, length-drop}

-- the first bytes of a text, and then the next ones
pub appends_more : (a b c : Option (List ℕ)) (text : List ℕ) (at n : ℕ) → Appends a b (take at text) →
    Appends b c (take n (take (length text - at) (drop at text))) → Appends a c (take (at + n) text)
appends_more a b c text at n first second =
    let whole : take (length text - at) (drop at text) ≡ drop at text = take_all (length text - at) (drop at text) (omega (arith, length-drop at text)) in
    rw (take-add at n text) (Appends-trans a b c (take at text) (take n (drop at text)) first (rw whole at second))
