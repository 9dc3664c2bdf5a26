-- The fields that a stanza keeps, seen in its text: how they are held. Not for callers, who read Fields.
use Rattle.std.specs.Prelude.{◌≡◌, ℕ, ◌<◌, ◌≤◌, ◌^◌, ◌-◌, ◌⊎◌, ⊤, ◌==◌, ◌||◌, Bool, List, [], ◌∷◌, ◌++◌, length, take, drop, map, None, if◌then◌else◌}
use Rattle.std.specs.List.{All}
use Rattle.std.specs.Str.{bytes_eq}
use Rattle.ctl_relation.specs.declared.span.Span.{Span}
pub use Rattle.ctl_relation.specs.Spans.{IsWithin, shown}
use Rattle.ctl_stanza.specs.declared.fields.Field.{Field}
use Rattle.ctl_stanza.specs.declared.line_kind.LineKind.{LineKind}
use Rattle.ctl_stanza.specs.declared.line_kind.LineKind.TheVariants.{Blank, Field as FieldLine, Continuation, Faulty}
use Rattle.ctl_stanza.specs.declared.repeats.Repeats.TheVariants.{Never}
use Rattle.ctl_stanza.specs.Faults.{first_fault}
use Rattle.ctl_stanza.specs.Lines.{lines_of, text_of_lines}
use Rattle.ctl_stanza.specs.LineKind.{kind_of}
use Rattle.ctl_stanza.specs.Fields.{FieldText, field_at, fields_of_lines, value_of, continued}
use Rattle.ctl_stanza.specs.Content.{name_and_body}

abbrev pub IsFieldWithin : List ℕ → Field → Type 0
IsFieldWithin text field = IsWithin text field.name × IsWithin text field.body

abbrev pub AreWithin : List ℕ → List Field → Type 0
AreWithin text fields = All (IsFieldWithin text) fields

abbrev pub shown_field : List ℕ → Field → FieldText
shown_field text field = record { line = field.line; name = shown text field.name; body = shown text field.body }

abbrev pub shown_fields : List ℕ → List Field → List FieldText
shown_fields text fields = map (shown_field text) fields

-- these were read as the fields of a text, and lie in these bytes
pub record AreReadFrom (text bytes : List ℕ) (fields : List Field) : Type 0 where
  pub within : AreWithin bytes fields
  pub fields_are : shown_fields bytes fields ≡ fields_of_lines (lines_of text)

-- ---- bodies in one piece

-- whether a field line ends with the value that it gives, whose name has n bytes
abbrev pub ends_with_value : ℕ → List ℕ → Bool
ends_with_value n line = bytes_eq (drop (length line - length (value_of n line)) line) (value_of n line)

-- The body of the field that a line of this kind begins, where it doesn't stand in the text in one piece: lines continue it,
-- and blanks stand between its value and these.
abbrev pub loose_at : LineKind → List ℕ → List (List ℕ) → List ℕ
loose_at (FieldLine n) line behind =
    if length (continued behind) == 0 || ends_with_value n line then [] else value_of n line ++ continued behind
loose_at Blank line behind = []
loose_at Continuation line behind = []
loose_at Faulty line behind = []

-- the bodies of lines that don't stand in their text in one piece, one behind the other
abbrev pub loose_bodies : List (List ℕ) → List ℕ
loose_bodies [] = []
loose_bodies (line ∷ behind) = loose_at (kind_of line) line behind ++ loose_bodies behind

-- the body of the field that a line of this kind begins stands in one piece: no line continues it, or its value ends its line
abbrev pub IsPlainAt : LineKind → List ℕ → List (List ℕ) → Type 0
IsPlainAt (FieldLine n) line behind =
    (length (continued behind) ≡ 0) ⊎ (drop (length line - length (value_of n line)) line ≡ value_of n line)
IsPlainAt Blank line behind = ⊤
IsPlainAt Continuation line behind = ⊤
IsPlainAt Faulty line behind = ⊤

-- the bodies of the fields of these lines stand in one piece each
abbrev pub ArePlain : List (List ℕ) → Type 0
ArePlain [] = ⊤
ArePlain (line ∷ behind) = IsPlainAt (kind_of line) line behind × ArePlain behind

-- a text is its lines, each with a newline
abbrev pub IsText : List ℕ → Type 0
IsText text = text ≡ text_of_lines (lines_of text)

-- Fields are found by walking a text; their bodies that don't stand in it in one piece are at hand.
pub record IsWalk (text loose : List ℕ) : Type 0 where
  pub small : length text < 2 ^ 32
  pub is_text : IsText text
  pub loose_are : loose ≡ loose_bodies (lines_of text)

-- the names and the bodies of the fields of a text, in order
abbrev pub bodies_in : List ℕ → List (List ℕ × List ℕ)
bodies_in text = map name_and_body (fields_of_lines (lines_of text))

-- The text at the front of bytes has no faulty line, and these are its fields. Behind it stand the bodies that don't stand in
-- it in one piece.
pub record IsReadFrom (bytes : List ℕ) (text_len : ℕ) (fields : List Field) : Type 0 where
  pub within : text_len ≤ length bytes
  pub small : text_len < 2 ^ 32
  pub is_text : IsText (take text_len bytes)
  pub loose_are : drop text_len bytes ≡ loose_bodies (lines_of (take text_len bytes))
  pub fields_are : AreReadFrom (take text_len bytes) bytes fields
  pub good_lines : first_fault Never 0 [] (lines_of (take text_len bytes)) ≡ None

-- ---- how fields are read

-- a part stands at a place of bytes
abbrev pub StandsAt : List ℕ → ℕ → List ℕ → Type 0
StandsAt bytes at part = take (length part) (drop at bytes) ≡ part

-- bytes with others behind them
pub record Grows (old new : List ℕ) : Type 0 where
  pub more : List ℕ
  pub joined : new ≡ old ++ more

-- a span lies in bytes, and shows this part of them
pub record Shows (bytes : List ℕ) (span : Span) (part : List ℕ) : Type 0 where
  pub within : IsWithin bytes span
  pub part_is : shown bytes span ≡ part

-- what the line at an index adds to fields, by the lines behind it
pub record Adds (bytes line : List ℕ) (behind : List (List ℕ)) (index : ℕ) (old : List FieldText) (new : List Field) : Type 0 where
  pub within : AreWithin bytes new
  pub fields : shown_fields bytes new ≡ old ++ field_at index (kind_of line) line behind

-- the line of each field is one of so many
abbrev pub AreBelow : ℕ → List Field → Type 0
AreBelow count fields = All (λ field. field.line < count) fields

-- fields lie in these bytes, and each line has a number, of which there is at least one
pub record AreNumbered (bytes numbers : List ℕ) (fields : List Field) : Type 0 where
  pub some : 0 < length numbers
  pub within : AreWithin bytes fields
  pub below : AreBelow (length numbers) fields
