-- The bytes of relation fields, and those of names of fields.
use Rattle.std.specs.Prelude.{ℕ, ◌==◌, ◌||◌, ◌&&◌, not, Bool}
use Rattle.std.specs.Char.{is_ascii_alphanumeric, is_ascii_graphic}
use Rattle.ctl_relation.specs.Bytes.{tab, newline, space, right_parenthesis, hyphen, colon}

-- A field may be folded over several lines, so that a newline is whitespace too.
abbrev pub is_whitespace : ℕ → Bool
is_whitespace b = b == space || (b == tab || b == newline)

-- letters, digits, hyphens
abbrev pub is_qualifier_byte : ℕ → Bool
is_qualifier_byte b = is_ascii_alphanumeric b || b == hyphen

-- The word of a version goes up to whitespace or a closing parenthesis.
abbrev pub is_version_word_byte : ℕ → Bool
is_version_word_byte b = not (is_whitespace b || b == right_parenthesis)

-- the bytes of names of fields: the printable bytes of ASCII, space and colon aside (Debian Policy 5.1)
abbrev pub is_field_name_byte : ℕ → Bool
is_field_name_byte b = is_ascii_graphic b && not (b == colon)
