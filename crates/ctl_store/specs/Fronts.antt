-- The fronts of names.
use Rattle.std.specs.Prelude.{ℕ, zero, suc, ◌+◌, ◌-◌, ◌*◌, min, List, [], ◌∷◌, Bool, nat_lt, if◌then◌else◌}

-- how many characters a front has
abbrev pub front_len : ℕ
front_len = 12

-- The number of a character: '+', '-', '.', digits and small letters have those from 1 to 39, any other that of the last of
-- these before it.
abbrev pub digit : ℕ → ℕ
digit byte = min (byte - 42) 1 + min (byte - 44) 2 + min (byte - 47) 10 + min (byte - 96) 26

abbrev pub has_digit : ℕ → Bool
has_digit byte = nat_lt (digit (byte - 1)) (digit byte)

-- what stands behind a character that has no number of its own
abbrev pub last_ones : ℕ → List ℕ
last_ones zero = []
last_ones (suc k) = 122 ∷ last_ones k

-- the number of the first character, where the end is as 0
abbrev pub first_digit : List ℕ → ℕ
first_digit [] = 0
first_digit (byte ∷ bytes) = digit byte

abbrev pub behind_first : List ℕ → List ℕ
behind_first [] = []
behind_first (byte ∷ bytes) = if has_digit byte then bytes else last_ones front_len

-- the number of the first k characters behind a number, to base 40
abbrev pub packed : ℕ → ℕ → List ℕ → ℕ
packed zero n name = n
packed (suc k) n name = packed k (n * 40 + first_digit name) (behind_first name)

unfoldable pub front_of : List ℕ → ℕ
front_of name = packed front_len 0 name
