-- The lines of a text (deb822(5)).
use Rattle.std.specs.Prelude.{◌≡◌, ℕ, Bool, false, List, [], ◌∷◌, ◌++◌, ◌==◌, ◌||◌, nat_lt, length, map, if◌then◌else◌}
use Rattle.std.specs.Borrow.{Bor}
use Rattle.std.specs.List.{list_all}
use Rattle.ctl_relation.specs.Bytes.{newline, space, tab}

-- the most bytes of a line, its newline not counted
abbrev pub max_line : ℕ
max_line = 1048576

abbrev pub is_too_long : List ℕ → Bool
is_too_long line = nat_lt max_line (length line)

-- a byte before the first line
abbrev pub onto_first : ℕ → List (List ℕ) → List (List ℕ)
onto_first b [] = (b ∷ []) ∷ []
onto_first b (line ∷ lines) = (b ∷ line) ∷ lines

-- A newline ends a line; a last line without one counts if it isn't empty.
-- A carriage return is a byte like any other.
abbrev pub lines_of : List ℕ → List (List ℕ)
lines_of [] = []
lines_of (b ∷ text) = if b == newline then [] ∷ lines_of text else onto_first b (lines_of text)

-- the text of lines: each with a newline
abbrev pub text_of_lines : List (List ℕ) → List ℕ
text_of_lines [] = []
text_of_lines (line ∷ lines) = line ++ newline ∷ text_of_lines lines

-- No line has a newline: their text is cut into them again.
abbrev pub AreLines : List (List ℕ) → Type 0
AreLines lines = lines_of (text_of_lines lines) ≡ lines

-- the bytes of lines that are lent
abbrev pub lent_lines : List (Bor (List ℕ)) → List (List ℕ)
lent_lines lines = map (λ line. line.now) lines

-- a space or a tab
abbrev pub is_blank_byte : ℕ → Bool
is_blank_byte b = b == space || b == tab

-- a line of spaces and tabs alone, or of nothing
abbrev pub is_blank : List ℕ → Bool
is_blank line = list_all is_blank_byte line

abbrev pub begins_with_blank : List ℕ → Bool
begins_with_blank [] = false
begins_with_blank (byte ∷ line) = is_blank_byte byte
