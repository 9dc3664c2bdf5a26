-- What the quick pass accepts. Not for callers.
use Rattle.std.specs.Prelude.{◌≡◌, ◌+◌, ◌-◌, ◌<◌, ◌≤◌, ◌^◌, ℕ, List, ◌∷◌, ◌++◌, length, take, false}
use Rattle.std.specs.List.{All}
use Rattle.ctl_relation.specs.Bytes.{newline}
use Rattle.ctl_stanza.specs.declared.fields.Field.{Field}
use Rattle.ctl_stanza.specs.declared.quick.Accepted.{Accepted}
use Rattle.ctl_stanza.specs.declared.quick.LineHere.{LineHere}
use Rattle.ctl_stanza.specs.declared.line_kind.LineKind.TheVariants as kinds
use Rattle.ctl_stanza.specs.Lines.{lines_of}
use Rattle.ctl_stanza.specs.LineKind.{kind_of}
use Rattle.ctl_stanza.specs.Fields.{value_of, continued, field_at}
use Rattle.ctl_stanza.specs.Inside.HeldFields.{IsPlainAt, IsReadFrom, AreBelow, StandsAt, shown_field, shown_fields}
use Rattle.ctl_stanza.specs.Text.{IsFirstPiece, is_gap}

-- a field stands before an end
abbrev pub IsUpTo : ℕ → Field → Type 0
IsUpTo end field =
    ((field.name.start ≤ field.name.end) × (field.name.end ≤ end)) × ((field.body.start ≤ field.body.end) × (field.body.end ≤ end))

abbrev pub AreUpTo : ℕ → List Field → Type 0
AreUpTo end fields = All (IsUpTo end) fields

-- where the lines end that continue the field of a line, with a newline
abbrev pub end_behind : LineHere → ℕ
end_behind here = here.at + length here.line.now + 1 + length (continued (lines_of here.behind.now))

-- the field that a line begins, whose name has n bytes
pub record IsPlainField (bytes : List ℕ) (here : LineHere) (n : ℕ) (field : Field) : Type 0 where
  pub shows : shown_field bytes field
      ≡ record { line = here.index; name = take n here.line.now; body = value_of n here.line.now ++ continued (lines_of here.behind.now) }
  pub up_to : IsUpTo (end_behind here) field
  pub plain : IsPlainAt (kinds.Field n) here.line.now (lines_of here.behind.now)

-- bytes in which a line stands at its place, with what is behind it
abbrev pub HasLine : LineHere → List ℕ → Type 0
HasLine here bytes = StandsAt bytes here.at (here.line.now ++ newline ∷ here.behind.now)

-- the field that a line begins, in whichever bytes it stands
abbrev pub IsPlainAnywhere : LineHere → ℕ → Field → Type 0
IsPlainAnywhere here n field = (bytes : List ℕ) → HasLine here bytes → IsPlainField bytes here n field

-- what a line adds to fields
pub record AddsPlain (bytes : List ℕ) (here : LineHere) (old new : List Field) : Type 0 where
  pub fields : shown_fields bytes new
      ≡ shown_fields bytes old ++ field_at here.index (kind_of here.line.now) here.line.now (lines_of here.behind.now)
  pub up_to : AreUpTo (end_behind here) old → AreUpTo (end_behind here) new
  pub below : AreBelow (here.index + 1) old → AreBelow (here.index + 1) new
  pub plain : IsPlainAt (kind_of here.line.now) here.line.now (lines_of here.behind.now)

-- the same in whichever bytes the line stands
abbrev pub AddsAnywhere : LineHere → List Field → List Field → Type 0
AddsAnywhere here old new = (bytes : List ℕ) → HasLine here bytes → AddsPlain bytes here old new

-- so many lines were cut off the front of a text
pub record IsCutOff (text left : List ℕ) (count : ℕ) (found : Accepted) : Type 0 where
  pub some : 0 < count
  pub count_is : found.line_count ≡ count
  pub text_is : found.text.now ≡ take (length text - length left) text
  pub small : length text - length left < 2 ^ 32
  pub behind_is : found.behind.now ≡ left

-- The first lines of a text are a stanza without a faulty line, whose fields these are, and the rest of the text stands
-- behind them.
pub record IsAccepted (text : List ℕ) (found : Accepted) (fields : List Field) : Type 0 where
  pub some : 0 < found.line_count
  pub count : found.line_count ≡ length (lines_of found.text.now)
  pub first : IsFirstPiece (lines_of text) (lines_of found.text.now) (lines_of found.behind.now)
  pub stanza : is_gap (lines_of found.text.now) ≡ false
  pub read : IsReadFrom found.text.now (length found.text.now) fields
  pub below : AreBelow found.line_count fields
  pub room : length (lines_of text) ≡ found.line_count + length (lines_of found.behind.now)
  pub less : length found.behind.now < length text
