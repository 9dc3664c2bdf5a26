-- The faults of a text of preferences, each at the index of its line, told apart from how the text is read.
use Rattle.std.specs.Prelude.{◌≡◌, ◌≢◌, ◌<◌, ◌≤◌, ℕ, List, length, map, take, drop, slice_index, Option, Some, None, Ok, Err}
use Rattle.ctl_stanza.specs.declared.repeats.Repeats.TheVariants.{Explanation}
use Rattle.ctl_stanza.specs.declared.fault.TextFault.{TextFault}
use Rattle.ctl_stanza.specs.declared.fault.Cause.{Cause}
use Rattle.ctl_stanza.specs.declared.fault.Cause.TheVariants as causes
use Rattle.ctl_stanza.specs.Faults.{number_of}
use Rattle.ctl_stanza.specs.LineRuns.{line_at, Run, AreStanzasBefore}
use Rattle.ctl_stanza.specs.Laws.{lines_before, IsFaultyLine}
use Rattle.ctl_stanza.specs.Records.{RecordText, record_lines, numbers_of, bytes_of, record_of, read_record_text}

-- the line at i of the lines that aren't comments has this fault
abbrev pub HasRecordFault : List (List ℕ) → ℕ → Cause → Type 0
HasRecordFault lines i cause = (i < length lines) × IsFaultyLine Explanation (lines_before lines i) (line_at lines i) cause

-- A fault that is told is one, of the line that has this number in the text. No line before it has a fault, and on its
-- line none has a lower number.
pub record IsLeastRecordFault (numbers : List ℕ) (lines : List (List ℕ)) (fault : TextFault) : Type 0 where
  pub index : ℕ
  pub line : fault.line ≡ slice_index numbers index
  pub sound : HasRecordFault lines index fault.cause
  pub least : (i : ℕ) (cause : Cause) → HasRecordFault lines i cause → index ≤ i
  pub lowest : (cause : Cause) → HasRecordFault lines index cause → number_of fault.cause ≤ number_of cause

-- the lines of a text of preferences that aren't comments, and the numbers that they have in the text
abbrev pub lines_kept : ℕ → List ℕ → List (List ℕ)
lines_kept n text = bytes_of (record_lines n text)

abbrev pub numbers_kept : ℕ → List ℕ → List ℕ
numbers_kept n text = numbers_of (record_lines n text)

-- no line has a fault, comments aside
abbrev pub HasNoRecordFault : ℕ → List ℕ → Type 0
HasNoRecordFault n text = (i : ℕ) (cause : Cause) → HasRecordFault (lines_kept n text) i cause → ⊥

-- a fault is the least one of a text of preferences
abbrev pub IsLeastFaultOf : ℕ → List ℕ → TextFault → Type 0
IsLeastFaultOf n text fault = IsLeastRecordFault (numbers_kept n text) (lines_kept n text) fault

-- A text of preferences that is read has no faulty line, comments aside; of one that isn't the least fault is told.
pub record ReadsRecordsOrTells (n : ℕ) (text : List ℕ) : Type 0 where
  pub read : (records : List RecordText) → read_record_text n text ≡ Ok records → HasNoRecordFault n text
  pub told : (fault : TextFault) → read_record_text n text ≡ Err fault → IsLeastFaultOf n text fault

-- ---- records

-- the record of a run of lines, by the numbers that the lines have
abbrev pub record_at : List ℕ → Run → RecordText
record_at numbers run = record_of (take (length run.lines) (drop run.start numbers)) run.lines

-- These are the records that end before the line at an index: all the maximal runs of lines that aren't blank and end
-- there or before, each once, in order. Comments are left out, and the lines counted without them.
pub record AreRecordsBefore (n : ℕ) (text : List ℕ) (end : ℕ) (records : List RecordText) : Type 0 where
  pub runs : List Run
  pub are_runs : AreStanzasBefore (lines_kept n text) end runs
  pub records_are : records ≡ map (record_at (numbers_kept n text)) runs

-- all the records of a text
abbrev pub AreRecordsOf : ℕ → List ℕ → List RecordText → Type 0
AreRecordsOf n text records = AreRecordsBefore n text (length (lines_kept n text)) records

-- Of a text without a fault these are all records; of another its least fault is told, and these are the records
-- before the line of that fault.
abbrev pub AreRecordsUpTo : ℕ → List ℕ → List RecordText → Option TextFault → Type 0
AreRecordsUpTo n text records None = HasNoRecordFault n text × AreRecordsOf n text records
AreRecordsUpTo n text records (Some fault) = (least : IsLeastFaultOf n text fault) × AreRecordsBefore n text least.index records

-- What was told is the least fault, unless memory ran out.
abbrev pub TellsLeastRecordFault : ℕ → List ℕ → TextFault → Type 0
TellsLeastRecordFault n text told = told.cause ≢ causes.Memory → IsLeastFaultOf n text told
