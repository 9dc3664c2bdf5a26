-- The key of a part turn by turn, as deb-version(7), "Sorting algorithm", goes through it.
use Rattle.std.specs.Prelude.{◌≡◌, ℕ, pos, List, [], ◌∷◌, ◌++◌, take, map, not}
use Rattle.std.specs.List.{AllPass}
use Rattle.std.specs.Char.{is_ascii_digit}
use Rattle.std.specs.Str.Parse.{digits_value}
use Rattle.std.specs.declared.cmp.Ordering.TheVariants.{Less}
use Rattle.ctl_relation.specs.Bytes.{tilde}
use Rattle.ctl_relation.specs.Key.{weight, struck, key, key_cmp}

-- A turn: a run of bytes that are no digits, which may be empty, the whole run of digits behind it, and what follows.
-- Digits are missing only at the end of the part.
pub record IsTurn (run digits rest : List ℕ) : Type 0 where
  pub others : AllPass (λ b. not (is_ascii_digit b)) run
  pub numerals : AllPass is_ascii_digit digits
  pub longest : AllPass (λ b. not (is_ascii_digit b)) (take 1 rest)
  pub last : digits ≡ [] → rest ≡ []

-- A turn counts the weights of its run, a 0, and the value of its digits, and then come the numbers of what follows.
abbrev pub KeysGoByTurns : Type 0
KeysGoByTurns = (run digits rest : List ℕ) → IsTurn run digits rest
    → key (run ++ (digits ++ rest)) ≡ struck (map weight run ++ (pos 0 ∷ pos (digits_value 10 digits) ∷ key rest))

-- A tilde comes before everything, the end of the part too.
abbrev pub TildeComesFirst : Type 0
TildeComesFirst = (part more : List ℕ) → key_cmp (key (part ++ tilde ∷ more)) (key part) ≡ Less
