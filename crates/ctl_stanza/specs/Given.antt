-- The names of fields that a stanza has given so far, as they are held. Not for callers.
use Rattle.std.specs.Prelude.{ℕ, List}

-- the first ones as they stand in the text, and the others in small letters
pub record Given : Type 0 where
  pub first : List (List ℕ)
  pub others : List (List ℕ)
