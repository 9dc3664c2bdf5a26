-- The faults of a text, each at the index of its line, told apart from how the text is read.
use Rattle.std.specs.Prelude.{◌≡◌, ◌≢◌, ◌+◌, ◌<◌, ◌≤◌, ℕ, true, false, not, ◌⊎◌, List, [], ◌∷◌, ◌++◌, length, map, take, filter, flat_map, Contains, Some, None, is_none, Ok, Err}
use Rattle.std.specs.List.{All, list_all, after_last}
use Rattle.std.specs.List.Sorted.{IsStrictlyIncreasing}
use Rattle.ctl_relation.specs.declared.field_kind.FieldKind.{FieldKind}
use Rattle.ctl_relation.specs.Names.{is_name}
use Rattle.ctl_relation.specs.Version.{fault_of}
use Rattle.ctl_relation.specs.Reading.{relations_of}
use Rattle.ctl_stanza.specs.declared.line_kind.LineKind.TheVariants.{Field, Continuation, Faulty}
use Rattle.ctl_stanza.specs.declared.list_kind.ListKind.{ListKind}
use Rattle.ctl_stanza.specs.declared.repeats.Repeats.{Repeats}
use Rattle.ctl_stanza.specs.declared.repeats.Repeats.TheVariants.{Never}
use Rattle.ctl_stanza.specs.declared.fault.TextFault.{TextFault}
use Rattle.ctl_stanza.specs.declared.fault.Cause.{Cause}
use Rattle.ctl_stanza.specs.declared.fault.Cause.TheVariants as causes
use Rattle.ctl_stanza.specs.Lines.{lines_of, text_of_lines, max_line, is_blank}
use Rattle.ctl_stanza.specs.LineKind.{kind_of}
use Rattle.ctl_stanza.specs.Fields.{FieldText, value_of, continues, continued, fields_of_lines, body_named, is_same_name, may_repeat, package_name, version_name}
use Rattle.ctl_stanza.specs.RelationFields.{name_of}
use Rattle.ctl_stanza.specs.Status.{liveness, is_live_by}
use Rattle.ctl_stanza.specs.LineRuns.{line_at, IsStanzaAt, Run, AreStanzasBefore}
use Rattle.ctl_stanza.specs.Content.{Content, content_of}
use Rattle.ctl_stanza.specs.Faults.{number_of, body_len, is_read}
use Rattle.ctl_stanza.specs.Text.{read_text}

-- ---- faulty lines

-- an earlier line is a field line of this name
pub record IsNameGiven (before : List (List ℕ)) (name : List ℕ) : Type 0 where
  pub earlier : List ℕ
  pub stands : Contains before earlier
  pub bytes : ℕ
  pub is_field : kind_of earlier ≡ Field bytes
  pub same : is_same_name name (take bytes earlier) ≡ true

-- a line is a field line whose name stands in an earlier line, and may stand but once
pub record IsFieldTwice (repeats : Repeats) (before : List (List ℕ)) (line : List ℕ) : Type 0 where
  pub bytes : ℕ
  pub is_field : kind_of line ≡ Field bytes
  pub given : IsNameGiven before (take bytes line)
  pub once : may_repeat repeats (take bytes line) ≡ false

-- a line continues the body that the lines before it have begun to more bytes than a body may have
pub record MakesBodyTooLong (before : List (List ℕ)) (line : List ℕ) : Type 0 where
  pub behind_line : 0 < length before
  pub continues : kind_of line ≡ Continuation
  pub too_long : max_line < body_len before + (1 + length line)

-- all of them continue the field before them
abbrev pub AreContinuations : List (List ℕ) → Type 0
AreContinuations lines = list_all (λ line. continues (kind_of line)) lines ≡ true

-- The bytes that are counted are those of the body: of the value of the last field line, and of the lines that continue it.
abbrev pub BodiesAreCounted : Type 0
BodiesAreCounted = (front : List (List ℕ)) (line : List ℕ) (more : List (List ℕ)) (n : ℕ) → kind_of line ≡ Field n → AreContinuations more
    → body_len (front ++ line ∷ more) ≡ length (value_of n line ++ continued more)

-- a line continues, and no line stands before it
pub record ContinuesNothing (before : List (List ℕ)) (line : List ℕ) : Type 0 where
  pub is_first : length before ≡ 0
  pub continues : kind_of line ≡ Continuation

-- What is wrong with a line, by the lines before it in its stanza: it is too long, or the body that it continues is; it
-- is neither blank, nor a field line, nor a continuation behind a line; it gives a field that was given. One line can have
-- more than one fault.
abbrev pub IsFaultyLine : Repeats → List (List ℕ) → List ℕ → Cause → Type 0
IsFaultyLine repeats before line causes.TooLong = (max_line < length line) ⊎ MakesBodyTooLong before line
IsFaultyLine repeats before line causes.Line = ContinuesNothing before line ⊎ (kind_of line ≡ Faulty)
IsFaultyLine repeats before line causes.FieldTwice = IsFieldTwice repeats before line
IsFaultyLine repeats before line causes.Missing = ⊥
IsFaultyLine repeats before line causes.Name = ⊥
IsFaultyLine repeats before line causes.Version = ⊥
IsFaultyLine repeats before line causes.Relation = ⊥
IsFaultyLine repeats before line causes.Priority = ⊥
IsFaultyLine repeats before line causes.Form = ⊥
IsFaultyLine repeats before line causes.Memory = ⊥

-- ---- stanzas without a faulty line

abbrev pub HasNoFaultyLine : List (List ℕ) → Type 0
HasNoFaultyLine stanza = (i : ℕ) (cause : Cause) → i < length stanza → IsFaultyLine Never (take i stanza) (line_at stanza i) cause → ⊥

-- a field of this name is absent, or empty
abbrev pub LacksBody : List (List ℕ) → List ℕ → Type 0
LacksBody stanza name = (body : List ℕ) → body_named name (fields_of_lines stanza) ≡ Some body → body ≡ []

-- a stanza of a status list has no state: no field Status, or one whose body isn't three words with a state as the third
abbrev pub LacksState : ListKind → List (List ℕ) → Type 0
LacksState kind stanza = liveness kind (fields_of_lines stanza) ≡ None

abbrev pub IsLive : ListKind → List (List ℕ) → Type 0
IsLive kind stanza = is_live_by kind (fields_of_lines stanza) ≡ true

-- A stanza has to have a package, in a status list a state, and where it is live a version; this one lacks one of them.
abbrev pub LacksField : ListKind → List (List ℕ) → Type 0
LacksField kind stanza =
    LacksBody stanza package_name ⊎ (LacksState kind stanza ⊎ (IsLive kind stanza × LacksBody stanza version_name))

-- the field that begins at the line at i is Package, and its body is no name
pub record HasBadName (stanza : List (List ℕ)) (i : ℕ) : Type 0 where
  pub field : FieldText
  pub stands : Contains (fields_of_lines stanza) field
  pub line : field.line ≡ i
  pub is_package : is_same_name field.name package_name ≡ true
  pub no_name : is_name field.body ≡ false

-- the stanza is live, the field that begins at the line at i is Version, and its body is no version
pub record HasBadVersion (kind : ListKind) (stanza : List (List ℕ)) (i : ℕ) : Type 0 where
  pub live : IsLive kind stanza
  pub field : FieldText
  pub stands : Contains (fields_of_lines stanza) field
  pub line : field.line ≡ i
  pub is_version : is_same_name field.name version_name ≡ true
  pub no_version : is_none (fault_of field.body) ≡ false

-- the stanza is live, the field that begins at the line at i is a relation field, and its body can't be read
pub record HasBadRelation (kind : ListKind) (stanza : List (List ℕ)) (i : ℕ) : Type 0 where
  pub live : IsLive kind stanza
  pub field : FieldText
  pub stands : Contains (fields_of_lines stanza) field
  pub line : field.line ≡ i
  pub relation : FieldKind
  pub is_relation : is_same_name field.name (name_of relation) ≡ true
  pub no_relations : is_read (relations_of relation field.body) ≡ false

-- what is wrong with the line at i of a stanza that has no faulty line
abbrev pub HasWholeFault : ListKind → List (List ℕ) → ℕ → Cause → Type 0
HasWholeFault kind stanza i causes.TooLong = ⊥
HasWholeFault kind stanza i causes.Line = ⊥
HasWholeFault kind stanza i causes.FieldTwice = ⊥
HasWholeFault kind stanza i causes.Missing = (i ≡ 0) × LacksField kind stanza
HasWholeFault kind stanza i causes.Name = HasBadName stanza i
HasWholeFault kind stanza i causes.Version = HasBadVersion kind stanza i
HasWholeFault kind stanza i causes.Relation = HasBadRelation kind stanza i
HasWholeFault kind stanza i causes.Priority = ⊥
HasWholeFault kind stanza i causes.Form = ⊥
HasWholeFault kind stanza i causes.Memory = ⊥

-- a stanza has no faulty line, and no other fault either
pub record IsFaultless (kind : ListKind) (stanza : List (List ℕ)) : Type 0 where
  pub good_lines : HasNoFaultyLine stanza
  pub good_parts : (i : ℕ) (cause : Cause) → HasWholeFault kind stanza i cause → ⊥

-- the lines at which the fields of a stanza begin rise, and are lines of it
pub record FieldsRise (stanza : List (List ℕ)) : Type 0 where
  pub rise : IsStrictlyIncreasing (map (λ (field : FieldText). field.line) (fields_of_lines stanza))
  pub within : All (λ (field : FieldText). field.line < length stanza) (fields_of_lines stanza)

-- ---- the lines of a text

-- the lines before the line at i, back to the last blank one
abbrev pub lines_before : List (List ℕ) → ℕ → List (List ℕ)
lines_before lines i = after_last is_blank (take i lines)

-- the line at i stands in a stanza without a faulty line, and has this fault there
pub record HasStanzaFault (kind : ListKind) (lines : List (List ℕ)) (i : ℕ) (cause : Cause) : Type 0 where
  pub start : ℕ
  pub stanza : List (List ℕ)
  pub stands : IsStanzaAt lines start stanza
  pub good_lines : HasNoFaultyLine stanza
  pub index : ℕ
  pub line : start + index ≡ i
  pub fault : HasWholeFault kind stanza index cause

-- The line at i has this fault: it is faulty, or it stands in a stanza without a faulty line that has this fault there.
abbrev pub HasFault : ListKind → List (List ℕ) → ℕ → Cause → Type 0
HasFault kind lines i cause =
    ((i < length lines) × IsFaultyLine Never (lines_before lines i) (line_at lines i) cause) ⊎ HasStanzaFault kind lines i cause

-- ---- the laws

abbrev pub HasNoFault : ListKind → List (List ℕ) → Type 0
HasNoFault kind lines = (i : ℕ) (cause : Cause) → HasFault kind lines i cause → ⊥

-- A fault that is told is one, where lines count from n. No line before it has a fault, and on its line none has a
-- lower number.
pub record IsLeastFault (kind : ListKind) (n : ℕ) (lines : List (List ℕ)) (fault : TextFault) : Type 0 where
  pub index : ℕ
  pub line : fault.line ≡ n + index
  pub sound : HasFault kind lines index fault.cause
  pub least : (i : ℕ) (cause : Cause) → HasFault kind lines i cause → index ≤ i
  pub lowest : (cause : Cause) → HasFault kind lines index cause → number_of fault.cause ≤ number_of cause

-- What is told is the least fault, unless memory ran out.
abbrev pub TellsLeastFault : ListKind → ℕ → List (List ℕ) → TextFault → Type 0
TellsLeastFault kind n lines told = told.cause ≢ causes.Memory → IsLeastFault kind n lines told

-- A text that is read has no fault; of one that isn't its least fault is told.
pub record ReadsOrTells (kind : ListKind) (n : ℕ) (text : List ℕ) : Type 0 where
  pub read : (contents : List Content) → read_text kind n text ≡ Ok contents → HasNoFault kind (lines_of text)
  pub told : (fault : TextFault) → read_text kind n text ≡ Err fault → IsLeastFault kind n (lines_of text) fault

-- the lines that aren't blank
abbrev pub other_lines : List (List ℕ) → List (List ℕ)
other_lines lines = filter (λ line. not (is_blank line)) lines

-- The texts of the stanzas, joined, are the lines of the text that aren't blank, each with a newline: nothing is
-- lost or made.
abbrev pub KeepsLines : ListKind → ℕ → List ℕ → Type 0
KeepsLines kind n text = (contents : List Content) → read_text kind n text ≡ Ok contents
    → flat_map (λ content. content.text) contents ≡ text_of_lines (other_lines (lines_of text))

-- These are the stanzas of lines: all the maximal runs of lines that aren't blank, each once, in order.
pub record AreStanzasOf (kind : ListKind) (lines : List (List ℕ)) (contents : List Content) : Type 0 where
  pub runs : List Run
  pub are_stanzas : AreStanzasBefore lines (length lines) runs
  pub contents_are : contents ≡ map (λ (run : Run). content_of kind run.lines) runs

-- A text is read to its stanzas and to nothing else.
abbrev pub ReadsStanzas : ListKind → ℕ → List ℕ → Type 0
ReadsStanzas kind n text = (contents : List Content) → read_text kind n text ≡ Ok contents → AreStanzasOf kind (lines_of text) contents

-- There is no other list of the stanzas of these lines.
abbrev pub StanzasAreOneList : Type 0
StanzasAreOneList = (kind : ListKind) (lines : List (List ℕ)) (contents others : List Content)
    → AreStanzasOf kind lines contents → AreStanzasOf kind lines others → contents ≡ others
