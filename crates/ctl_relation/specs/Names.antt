-- Names of packages and of lists.
use Rattle.std.specs.Prelude.{◌≡◌, ℕ, ◌<◌, ◌==◌, ◌||◌, ◌&&◌, ◌↔◌, Bool, true, false, List, [], ◌∷◌, length, take}
use Rattle.std.specs.List.{list_all, AllPass}
use Rattle.std.specs.Char.{is_ascii_alphanumeric}
use Rattle.ctl_relation.specs.Bytes.{plus, hyphen, dot, underscore}

-- A name has letters, digits and `+ - . _`.
abbrev pub is_name_byte : ℕ → Bool
is_name_byte b = is_ascii_alphanumeric b || (b == plus || (b == hyphen || (b == dot || b == underscore)))

-- A name has at least one byte, and begins with a letter or a digit. This is wider than Debian Policy 5.6.1, which has
-- no capital letters and no underscore, and asks for two bytes.
abbrev pub is_name : List ℕ → Bool
is_name [] = false
is_name (b ∷ text) = is_ascii_alphanumeric b && list_all is_name_byte text

-- A text is a name where it has a byte, the first is a letter or a digit, and each may stand in a name.
abbrev pub NamesByTheirBytes : Type 0
NamesByTheirBytes = (text : List ℕ) → (is_name text ≡ true) ↔ ((0 < length text) × AllPass is_ascii_alphanumeric (take 1 text) × AllPass is_name_byte text)
