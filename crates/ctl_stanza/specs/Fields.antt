-- The fields of a stanza's lines.
use Rattle.std.specs.Prelude.{ℕ, ◌+◌, Bool, true, false, suc, List, [], ◌∷◌, ◌++◌, take, drop, codes, Option, None, Some, if◌then◌else◌}
use Rattle.std.specs.List.{prefix_len}
use Rattle.std.specs.Str.{str_eq_ignore_ascii_case}
use Rattle.ctl_stanza.specs.declared.line_kind.LineKind.{LineKind}
use Rattle.ctl_stanza.specs.declared.line_kind.LineKind.TheVariants.{Blank, Field, Continuation, Faulty}
use Rattle.ctl_stanza.specs.declared.repeats.Repeats.{Repeats}
use Rattle.ctl_stanza.specs.declared.repeats.Repeats.TheVariants.{Never, Explanation}
use Rattle.ctl_relation.specs.Bytes.{newline}
use Rattle.ctl_stanza.specs.Lines.{is_blank_byte}
use Rattle.ctl_stanza.specs.LineKind.{kind_of}

-- without the blanks at the front
abbrev pub strip_front : List ℕ → List ℕ
strip_front text = drop (prefix_len is_blank_byte text) text

-- a byte before what is left of a text whose end is stripped
abbrev pub before_stripped : ℕ → List ℕ → List ℕ
before_stripped b [] = if is_blank_byte b then [] else b ∷ []
before_stripped b (c ∷ text) = b ∷ c ∷ text

-- without the blanks at the end
abbrev pub strip_end : List ℕ → List ℕ
strip_end [] = []
strip_end (b ∷ text) = before_stripped b (strip_end text)

-- the value of a field line whose name has n bytes: blanks round it don't belong to it
abbrev pub value_of : ℕ → List ℕ → List ℕ
value_of n line = strip_end (strip_front (drop (n + 1) line))

-- whether a line of this kind continues the field before it
abbrev pub continues : LineKind → Bool
continues Continuation = true
continues Blank = false
continues (Field n) = false
continues Faulty = false

-- the continuation lines at the front, as they stand, each behind a newline
abbrev pub continued : List (List ℕ) → List ℕ
continued [] = []
continued (line ∷ lines) = if continues (kind_of line) then newline ∷ (line ++ continued lines) else []

-- a field: the index of its line in its stanza, its name, its body
pub record FieldText : Type 0 where
  pub line : ℕ
  pub name : List ℕ
  pub body : List ℕ

-- The field that the line at an index begins, by the kind of the line and the lines behind it. Its body is its
-- value, and then the lines that continue it, each behind a newline (Debian Policy 5.1).
abbrev pub field_at : ℕ → LineKind → List ℕ → List (List ℕ) → List FieldText
field_at i (Field n) line behind = record { line = i; name = take n line; body = value_of n line ++ continued behind } ∷ []
field_at i Blank line behind = []
field_at i Continuation line behind = []
field_at i Faulty line behind = []

-- the fields of lines, whose indices count from i
abbrev pub fields_from : ℕ → List (List ℕ) → List FieldText
fields_from i [] = []
fields_from i (line ∷ lines) = field_at i (kind_of line) line lines ++ fields_from (suc i) lines

-- the fields of a stanza's lines
abbrev pub fields_of_lines : List (List ℕ) → List FieldText
fields_of_lines lines = fields_from 0 lines

-- names of fields are equal without regard to ASCII case (Debian Policy 5.1)
abbrev pub is_same_name : List ℕ → List ℕ → Bool
is_same_name name other = str_eq_ignore_ascii_case name other

-- the body of the first field of a name
abbrev pub body_named : List ℕ → List FieldText → Option (List ℕ)
body_named name [] = None
body_named name (field ∷ fields) = if is_same_name field.name name then Some field.body else body_named name fields

-- whether a line of this kind begins the field of a name
abbrev pub names_field : LineKind → List ℕ → List ℕ → Bool
names_field (Field n) line name = is_same_name (take n line) name
names_field Blank line name = false
names_field Continuation line name = false
names_field Faulty line name = false

-- the names of the fields that a stanza has to have
abbrev pub package_name : List ℕ
package_name = codes "Package"

abbrev pub version_name : List ℕ
version_name = codes "Version"

abbrev pub status_name : List ℕ
status_name = codes "Status"

-- Which names may stand more than once: none in a stanza of a list, Explanation in a record of preferences.
abbrev pub may_repeat : Repeats → List ℕ → Bool
may_repeat Never name = false
may_repeat Explanation name = is_same_name name (codes "Explanation")
