-- The records of a text of preferences (apt_preferences(5)), as a function. RecordLaws says in plain words what they are,
-- and `records_are_runs` that this gives them.
use Rattle.std.specs.Prelude.{ℕ, ◌==◌, not, suc, Bool, false, List, [], ◌∷◌, ◌++◌, map, filter, length, take, drop, slice_index, Option, Some, None, Result, Ok, if◌then◌else◌}
use Rattle.std.specs.Option.{option_map}
use Rattle.ctl_relation.specs.Bytes.{hash}
use Rattle.ctl_stanza.specs.declared.repeats.Repeats.TheVariants.{Explanation}
use Rattle.ctl_stanza.specs.declared.fault.TextFault.{TextFault}
use Rattle.ctl_stanza.specs.Lines.{lines_of}
use Rattle.ctl_stanza.specs.Fields.{FieldText, fields_of_lines}
use Rattle.ctl_stanza.specs.Faults.{first_fault}
use Rattle.ctl_stanza.specs.Text.{Piece, pieces_of, is_gap, or_fault}

-- A record is the number of its first line, and its fields: of each the number of its line, its name and its body.
-- Lines count as they stand in the text.
pub record RecordText : Type 0 where
  pub first_line : ℕ
  pub fields : List FieldText

-- a field as it is shown: its name, its body and the number of its line
abbrev pub parts_of_field : FieldText → List ℕ × List ℕ × ℕ
parts_of_field field = (field.name, field.body, field.line)

abbrev pub parts_of_fields : RecordText → List (List ℕ × List ℕ × ℕ)
parts_of_fields text = map parts_of_field text.fields

-- ---- the lines that aren't comments

-- a line, with its number in the text
pub record NumberedLine : Type 0 where
  pub number : ℕ
  pub line : List ℕ

abbrev pub numbered_from : ℕ → List (List ℕ) → List NumberedLine
numbered_from n [] = []
numbered_from n (line ∷ lines) = record { number = n; line = line } ∷ numbered_from (suc n) lines

-- a comment begins with #
abbrev pub is_comment : List ℕ → Bool
is_comment [] = false
is_comment (b ∷ line) = b == hash

-- the lines of a text that aren't comments; a comment counts, and is skipped as if it weren't there
abbrev pub record_lines : ℕ → List ℕ → List NumberedLine
record_lines n text = filter (λ (line : NumberedLine). not (is_comment line.line)) (numbered_from n (lines_of text))

abbrev pub numbers_of : List NumberedLine → List ℕ
numbers_of lines = map (λ (line : NumberedLine). line.number) lines

abbrev pub bytes_of : List NumberedLine → List (List ℕ)
bytes_of lines = map (λ (line : NumberedLine). line.line) lines

-- ---- records, and faults

-- a field whose line is told by its index, with the number of that line
abbrev pub numbered_field : List ℕ → FieldText → FieldText
numbered_field numbers field = record { line = slice_index numbers field.line; name = field.name; body = field.body }

-- a fault whose line is told by its index, with the number of that line
abbrev pub numbered_fault : List ℕ → TextFault → TextFault
numbered_fault numbers fault = record { line = slice_index numbers fault.line; cause = fault.cause }

-- the record of lines that have these numbers
abbrev pub record_of : List ℕ → List (List ℕ) → RecordText
record_of numbers lines = record {
  first_line = slice_index numbers 0;
  fields = map (numbered_field numbers) (fields_of_lines lines);
}

-- A record has the faults of its lines alone; Explanation may stand in it more than once.
abbrev pub record_fault : List ℕ → List (List ℕ) → Option TextFault
record_fault numbers lines = option_map (numbered_fault numbers) (first_fault Explanation 0 [] lines)

-- the record that a piece is; a blank line is none
abbrev pub piece_record : List ℕ → List (List ℕ) → List RecordText
piece_record numbers lines = if is_gap lines then [] else record_of numbers lines ∷ []

-- the numbers of the lines of a piece, whose first line is told by its index
abbrev pub numbers_in : List ℕ → Piece → List ℕ
numbers_in numbers p = take (length p.lines) (drop p.first numbers)

-- a piece by its fault or its record, before what follows it
abbrev pub before_fault : Option TextFault → List RecordText → List RecordText × Option TextFault → List RecordText × Option TextFault
before_fault (Some fault) front behind = ([], Some fault)
before_fault None front behind = (front ++ behind.0, behind.1)

abbrev pub records_before : List ℕ → List Piece → List RecordText × Option TextFault
records_before numbers [] = ([], None)
records_before numbers (first ∷ others) =
    before_fault (record_fault (numbers_in numbers first) first.lines) (piece_record (numbers_in numbers first) first.lines)
    (records_before numbers others)

-- The records before the first piece that has a fault, and that fault; all of them where no piece has one. Lines count
-- from n.
abbrev pub records_before_fault : ℕ → List ℕ → List RecordText × Option TextFault
records_before_fault n text =
    let lines = record_lines n text in records_before (numbers_of lines) (pieces_of 0 (bytes_of lines))

abbrev pub records_or_fault : List RecordText × Option TextFault → Result (List RecordText) TextFault
records_or_fault read = or_fault read.1 (Ok read.0)

-- what the text of preferences is read to, where its lines count from n
abbrev pub read_record_text : ℕ → List ℕ → Result (List RecordText) TextFault
read_record_text n text = records_or_fault (records_before_fault n text)
