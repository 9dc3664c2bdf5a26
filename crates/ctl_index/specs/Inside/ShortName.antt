-- Short names: how the bytes of a name stand in a value of a fixed size.
use Rattle.std.specs.Ordering.{nat_cmp, ordering_then}
use Rattle.std.specs.declared.cmp.Ordering.{Ordering}
use Rattle.std.specs.Prelude.{◌≡◌, ℕ, zero, suc, ◌+◌, ◌*◌, ◌≤◌, List, [], ◌∷◌, ◌++◌, length, take, drop, slice_index}

-- how many bytes a short name has at most
abbrev pub most_short : ℕ
most_short = 31

-- the first k bytes of a name, filled up with zeros
abbrev pub filled : ℕ → List ℕ → List ℕ
filled zero name = []
filled (suc k) [] = 0 ∷ filled k []
filled (suc k) (byte ∷ bytes) = byte ∷ filled k bytes

-- the name in these places, whose last has the number of its bytes
abbrev pub held_name : List ℕ → List ℕ
held_name places = take (slice_index places most_short) places

-- the places hold a name, with zeros behind it, and the number of its bytes
pub record IsHeldIn (places name : List ℕ) : Type 0 where
  pub are : places ≡ filled most_short name ++ (length name ∷ [])
  pub few : length name ≤ most_short

-- the number that bytes spell after n, the first counting most
abbrev pub spelled : ℕ → List ℕ → ℕ
spelled n [] = n
spelled n (byte ∷ bytes) = spelled (n * 256 + byte) bytes

-- that of the eight bytes from a place on
abbrev pub word_at : ℕ → List ℕ → ℕ
word_at at places = spelled 0 (take 8 (drop at places))

-- which comes first by the numbers behind the first one
abbrev pub order_behind : List ℕ → List ℕ → Ordering
order_behind places others =
    ordering_then (nat_cmp (word_at 8 places) (word_at 8 others))
    (ordering_then (nat_cmp (word_at 16 places) (word_at 16 others)) (nat_cmp (word_at 24 places) (word_at 24 others)))
