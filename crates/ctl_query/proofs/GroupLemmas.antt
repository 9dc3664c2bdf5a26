-- Groups of alternatives.
use Rattle.std.proofs.Common.{◌≡◌, ◌||◌, ℕ, Bool, true, false, not, nat_lt, List, [], ◌∷◌, length, refl, sym, arith}
use Rattle.std.specs.Str.{bytes_eq}
use Rattle.std.proofs.lemmas.Bool.{lt-ltb}
use Rattle.ctl_relation.specs.Named.{group_names}
use Rattle.ctl_relation.specs.Parts.{AtomParts}
use Rattle.ctl_query.specs.Packages.{is_none_of}
use Rattle.ctl_query.specs.ShowPackage.{has_name}

-- a further alternative follows where some are left
pub is_followed : {A : Type 0} (others : List A) → not (is_none_of others) ≡ nat_lt 0 (length others)
is_followed [] = refl
is_followed (x ∷ xs) = sym (lt-ltb 0 (length (x ∷ xs)) (omega arith))

-- an entry without the name doesn't have it first
pub no_first_name : (name : List ℕ) (entry : List AtomParts) → group_names name entry ≡ false → has_name name entry ≡ false
no_first_name name [] h = refl
no_first_name name (atom ∷ others) h = by (bytes_eq atom.name name) refl
  where
    by : (b : Bool) → bytes_eq atom.name name ≡ b → bytes_eq atom.name name ≡ false
    by true e = absurd (let t : (true || group_names name others) ≡ false = (rw e at h) in let z : ⊥ = cc in z)
    by false e = e
