-- How the lines of a source are read, and where the reading stops.
use Rattle.std.specs.Prelude.{◌≡◌, ◌≢◌, ℕ, ◌+◌, ◌^◌, ◌<◌, ◌≤◌, ◌++◌, List, [], ◌∷◌}
use Rattle.std.specs.Prelude.{Option, None, Some, Result, Ok, Err, ◌⊎◌, Bool, true, false, length, take}
use Rattle.std.specs.Io.KnownBytes.{Consumes, IsAtEnd}
use Rattle.ctl_relation.specs.Bytes.{newline}
use Rattle.ctl_stanza.specs.Lines.{max_line, lines_of}
use Rattle.ctl_session.specs.declared.read_ahead.LineRead.{LineRead}
use Rattle.ctl_session.specs.declared.fault.ReadingFault.{ReadingFault}
use Rattle.ctl_session.specs.declared.fault.ReadingFault.TheVariants.{ReadFailed, TooManyLines}

-- no byte of it is a newline
abbrev pub IsOneLine : List ℕ → Type 0
IsOneLine [] = Unit {0}
IsOneLine (b ∷ bytes) = (b ≢ newline) × IsOneLine bytes

-- the newline at the end of a line, if there is one
abbrev pub newline_if : Bool → List ℕ
newline_if true = newline ∷ []
newline_if false = []

-- a piece of a line went from what was read ahead, with the newline after it if there was one
pub record TakesPiece (old new line line' : List ℕ) (read : LineRead) : Type 0 where
  pub piece : List ℕ
  pub one : IsOneLine piece
  pub split : old ≡ (piece ++ newline_if read.newline) ++ new
  pub count : read.count ≡ length piece
  pub kept : line' ≡ take max_line (line ++ piece)
  pub rest : read.newline ≡ false → new ≡ []

-- one line was read: its bytes went from what was to come, the buffer has the first ones of them
pub record TakesLine (old new : Option (List ℕ)) (buffer line : List ℕ) (read : LineRead) : Type 0 where
  pub one : IsOneLine line
  pub took : Consumes old new (line ++ newline_if read.newline)
  pub count : read.count ≡ length line
  pub short : length line < 2 ^ 32
  pub front : buffer ≡ take max_line line
  pub last : read.newline ≡ false → IsAtEnd new × (0 < length line)

-- the end was reached with no byte of a line, or a line was read
abbrev pub TakesNext : Option (List ℕ) → Option (List ℕ) → List ℕ → Option LineRead → Type 0
TakesNext old new buffer None = Consumes old new [] × IsAtEnd new
TakesNext old new buffer (Some read) = (line : List ℕ) × TakesLine old new buffer line read

-- the bytes that were read of a line when the run stopped
abbrev pub StopsInLine : Option (List ℕ) → Option (List ℕ) → Bool → ReadingFault → Type 0
-- no whole line, and a byte of one only where it is allowed
StopsInLine old new allowed ReadFailed =
    (line : List ℕ) × IsOneLine line × Consumes old new line × (length line < 2 ^ 32) × (0 < length line → allowed ≡ true)
-- a byte of a line that is not allowed, or too many of one
StopsInLine old new allowed TooManyLines = (bytes ahead : List ℕ) × Consumes old new (bytes ++ ahead) ×
    (((allowed ≡ false) × (0 < length bytes)) ⊎ ((allowed ≡ true) × IsOneLine bytes × (2 ^ 32 ≤ length bytes)))

-- so many lines are all that there may be, and a byte comes after them; or one more may come, and too many bytes of it do
abbrev pub IsPast : ℕ → ℕ → List ℕ → Type 0
IsPast max number over = ((number ≡ max) × (0 < length over)) ⊎ ((number < max) × IsOneLine over × (2 ^ 32 ≤ length over))

-- the bytes that were read after so many lines when the run stopped
abbrev pub StopsAfter : Option (List ℕ) → Option (List ℕ) → ℕ → ℕ → ReadingFault → Type 0
StopsAfter old new number max ReadFailed =
    (part : List ℕ) × IsOneLine part × Consumes old new part × (length part < 2 ^ 32) × (number + length (lines_of part) ≤ max)
StopsAfter old new number max TooManyLines = (over ahead : List ℕ) × Consumes old new (over ++ ahead) × IsPast max number over

-- a read failed
abbrev pub is_failed_read : {T : Type 0} → Result T ReadingFault → Bool
is_failed_read (Ok value) = false
is_failed_read (Err ReadFailed) = true
is_failed_read (Err TooManyLines) = false
