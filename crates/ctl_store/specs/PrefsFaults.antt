-- The faults of preferences (apt_preferences(5)), each at the index of its line, told apart from how the text is read. Comments
-- are left out, and the lines counted without them.
use Rattle.std.specs.Prelude.{◌≡◌, ◌≢◌, ◌⊎◌, ◌+◌, ◌<◌, ◌≤◌, ◌||◌, ℕ, ℤ, Bool, true, false, List, [], ◌∷◌, ◌++◌, length, codes, slice_index, Contains, None, Ok, Err, unwrap_or}
use Rattle.ctl_relation.specs.Names.{is_name}
use Rattle.ctl_stanza.specs.declared.fault.TextFault.{TextFault}
use Rattle.ctl_stanza.specs.declared.fault.Cause.{Cause}
use Rattle.ctl_stanza.specs.declared.fault.Cause.TheVariants as causes
use Rattle.ctl_stanza.specs.Faults.{number_of}
use Rattle.ctl_stanza.specs.Fields.{FieldText, fields_of_lines, body_named, is_same_name, package_name}
use Rattle.ctl_stanza.specs.Laws.{LacksBody}
use Rattle.ctl_stanza.specs.LineRuns.{IsStanzaAt}
use Rattle.ctl_stanza.specs.RecordLaws.{HasRecordFault, lines_kept, numbers_kept}
use Rattle.ctl_store.specs.declared.selector.Selector.{Selector}
use Rattle.ctl_store.specs.PinVersions.{is_pin_version}
use Rattle.ctl_store.specs.Priority.{priority_of}
use Rattle.ctl_store.specs.Prefs.{words_of, pin_name, priority_name, is_general, are_names, read_prefs_text}

-- ---- what is wrong with a field, by its name and its body

-- a pin has two words: `version`, and this version
abbrev pub AsksForVersion : List ℕ → List ℕ → Type 0
AsksForVersion body version = words_of body ≡ codes "version" ∷ version ∷ []

-- a pin has two words: `release`, and `a=` with this list behind it
abbrev pub AsksForList : List ℕ → List ℕ → Type 0
AsksForList body list = words_of body ≡ codes "release" ∷ (codes "a=" ++ list) ∷ []

-- a pin asks neither for a version nor for a list
pub record AsksForNothing (body : List ℕ) : Type 0 where
  pub no_version : (version : List ℕ) → AsksForVersion body version → ⊥
  pub no_list : (list : List ℕ) → AsksForList body list → ⊥

-- What is wrong with a pin, by whether its record is for any package: it asks for a list by what is no name, for what is neither a
-- version nor the front of one, for a version of any package, or for nothing. One pin can have more than one fault.
abbrev pub IsWrongPin : Bool → List ℕ → Cause → Type 0
IsWrongPin general body causes.Name = (list : List ℕ) × AsksForList body list × (is_name list ≡ false)
IsWrongPin general body causes.Version = (version : List ℕ) × AsksForVersion body version × (is_pin_version version ≡ false)
IsWrongPin general body causes.Form = ((version : List ℕ) × AsksForVersion body version × (general ≡ true)) ⊎ AsksForNothing body
IsWrongPin general body cause = ⊥

-- the packages are neither one `*` alone nor names
abbrev pub HasNoNames : List ℕ → Type 0
HasNoNames body = (is_general (words_of body) || are_names (words_of body)) ≡ false

-- what is wrong with a field, by whether its record is for any package
abbrev pub IsWrongField : Bool → List ℕ → List ℕ → Cause → Type 0
IsWrongField general name body cause =
    ((is_same_name name pin_name ≡ true) × IsWrongPin general body cause)
    ⊎ (((is_same_name name package_name ≡ true) × HasNoNames body × (cause ≡ causes.Name))
    ⊎ ((is_same_name name priority_name ≡ true) × (priority_of body ≡ None) × (cause ≡ causes.Priority)))

-- ---- what is wrong with a record that has no faulty line

-- the record is for any package: its packages are one `*` alone
abbrev pub is_for_any : List (List ℕ) → Bool
is_for_any stanza = is_general (words_of (unwrap_or (body_named package_name (fields_of_lines stanza)) []))

-- a field that a record has to have is absent or empty
abbrev pub LacksPart : List (List ℕ) → Type 0
LacksPart stanza = LacksBody stanza package_name ⊎ (LacksBody stanza pin_name ⊎ LacksBody stanza priority_name)

-- the field that begins at the line at i is wrong
pub record HasWrongField (stanza : List (List ℕ)) (i : ℕ) (cause : Cause) : Type 0 where
  pub field : FieldText
  pub stands : Contains (fields_of_lines stanza) field
  pub line : field.line ≡ i
  pub wrong : IsWrongField (is_for_any stanza) field.name field.body cause

-- what a record lacks is told at its first line
pub record IsLacking (stanza : List (List ℕ)) (i : ℕ) (cause : Cause) : Type 0 where
  pub missing : cause ≡ causes.Missing
  pub first_line : i ≡ 0
  pub lacks : LacksPart stanza

-- what is wrong with the line at i of a record that has no faulty line
abbrev pub HasOwnFault : List (List ℕ) → ℕ → Cause → Type 0
HasOwnFault stanza i cause = IsLacking stanza i cause ⊎ HasWrongField stanza i cause

-- ---- the lines of a text

-- a record stands at the line at start, and none of its lines is faulty
pub record IsGoodRecordAt (lines : List (List ℕ)) (start : ℕ) (stanza : List (List ℕ)) : Type 0 where
  pub stands : IsStanzaAt lines start stanza
  pub good : (i : ℕ) (cause : Cause) → start ≤ i → i < start + length stanza → HasRecordFault lines i cause → ⊥

-- the line at i stands in a record without a faulty line, and has this fault there
pub record HasOwnFaultAt (lines : List (List ℕ)) (i : ℕ) (cause : Cause) : Type 0 where
  pub start : ℕ
  pub stanza : List (List ℕ)
  pub is_record : IsGoodRecordAt lines start stanza
  pub index : ℕ
  pub line : start + index ≡ i
  pub fault : HasOwnFault stanza index cause

-- The line at i has this fault: it is faulty, or it stands in a record without a faulty line that has this fault there.
abbrev pub HasPrefsFault : List (List ℕ) → ℕ → Cause → Type 0
HasPrefsFault lines i cause = HasRecordFault lines i cause ⊎ HasOwnFaultAt lines i cause

-- preferences have no fault
abbrev pub HasNoPrefsFault : ℕ → List ℕ → Type 0
HasNoPrefsFault n text = (i : ℕ) (cause : Cause) → HasPrefsFault (lines_kept n text) i cause → ⊥

-- A fault that is told is one, of the line that has this number in the text. No line before it has a fault, and on its
-- line none has a lower number.
pub record IsLeastPrefsFault (n : ℕ) (text : List ℕ) (fault : TextFault) : Type 0 where
  pub index : ℕ
  pub line : fault.line ≡ slice_index (numbers_kept n text) index
  pub sound : HasPrefsFault (lines_kept n text) index fault.cause
  pub least : (i : ℕ) (cause : Cause) → HasPrefsFault (lines_kept n text) i cause → index ≤ i
  pub lowest : (cause : Cause) → HasPrefsFault (lines_kept n text) index cause → number_of fault.cause ≤ number_of cause

-- What is told is the least fault, unless memory ran out.
abbrev pub TellsLeastPrefsFault : ℕ → List ℕ → TextFault → Type 0
TellsLeastPrefsFault n text told = told.cause ≢ causes.Memory → IsLeastPrefsFault n text told

-- Preferences that are read have no fault; of those that aren't the least fault is told.
pub record ReadsPrefsOrTells (n : ℕ) (text : List ℕ) : Type 0 where
  pub read : (settings : List (Selector × ℤ)) → read_prefs_text n text ≡ Ok settings → HasNoPrefsFault n text
  pub told : (fault : TextFault) → read_prefs_text n text ≡ Err fault → IsLeastPrefsFault n text fault
