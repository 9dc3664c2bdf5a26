-- Texts in which small and capital letters of ASCII can't be told from one another.
use Rattle.std.specs.Prelude.{ℕ, List, map, bit_or}

-- a byte with the bit that the small letters of ASCII have and the capital ones don't
abbrev pub with_case_bit : ℕ → ℕ
with_case_bit byte = bit_or byte 32

abbrev pub with_case_bits : List ℕ → List ℕ
with_case_bits text = map with_case_bit text
