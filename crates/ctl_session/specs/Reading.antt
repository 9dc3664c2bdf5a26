-- What is read of a script, command by command.
use Rattle.std.specs.Prelude.{◌≡◌, ℕ, ◌+◌, ◌<◌, List, [], ◌∷◌, ◌++◌, Option, None, Some, Bool, true, false, length, IfErr}
use Rattle.std.specs.Io.KnownBytes.{Consumes, IsAtEnd}
use Rattle.ctl_relation.specs.Bytes.{dot}
use Rattle.ctl_stanza.specs.Lines.{lines_of, text_of_lines}
use Rattle.ctl_session.specs.LineReading.{TakesLine, StopsAfter}
use Rattle.ctl_session.specs.State.{CacheState}
use Rattle.ctl_session.specs.Asked.{ReadsLine}
use Rattle.ctl_session.specs.Script.{Command, commands_from, fits, first_long, is_dot, is_skipped, AreLines, ended_of}
use Rattle.ctl_session.specs.declared.script.Body.{Body}
use Rattle.ctl_session.specs.declared.script.CommandRead.{CommandRead}
use Rattle.ctl_session.specs.declared.read_ahead.LineRead.{LineRead}
use Rattle.ctl_session.specs.declared.fault.ReadingFault.{ReadingFault}

-- whatever comes after these bytes, the text has these lines first; nothing comes after the last ones
abbrev pub Cuts : Bool → List ℕ → List (List ℕ) → Type 0
Cuts last taken lines = (rest : List ℕ) → (last ≡ true → rest ≡ []) → lines_of (taken ++ rest) ≡ lines ++ lines_of rest

-- these bytes are whole lines, those after the one of this number up to the other
pub record WholeLines (bytes : List ℕ) (number after : ℕ) : Type 0 where
  pub lines : List (List ℕ)
  pub same : bytes ≡ text_of_lines lines
  pub good : AreLines lines
  pub count : after ≡ number + length lines

-- these bytes are lines, those after the one of this number up to the other; the last of them may lack its newline
pub record CountsLines (bytes : List ℕ) (number after : ℕ) : Type 0 where
  pub good : AreLines (lines_of bytes)
  pub count : after ≡ number + length (lines_of bytes)

-- none of the lines ends a body
abbrev pub HasNoDot : List (List ℕ) → Type 0
HasNoDot [] = Unit {0}
HasNoDot (line ∷ lines) = (is_dot line ≡ false) × HasNoDot lines

-- the line that ends a body, if there is one
abbrev pub dot_if : Bool → List (List ℕ)
dot_if true = (dot ∷ []) ∷ []
dot_if false = []

-- the body of these lines, the first of which has this number
pub record HoldsBody (first : ℕ) (lines : List (List ℕ)) (body : Body) : Type 0 where
  pub long : body.too_long ≡ first_long first lines
  pub text : body.dropped ≡ false → body.too_long ≡ None → body.text.items ≡ text_of_lines lines

-- a body was read: these bytes, that are these lines
pub record ReadsBody (old new : Option (List ℕ)) (number after : ℕ) (body : Body) : Type 0 where
  pub taken : List ℕ
  pub lines : List (List ℕ)
  pub took : Consumes old new taken
  pub cut : Cuts body.last taken (lines ++ dot_if body.ended)
  pub none : HasNoDot lines
  pub unended : body.ended ≡ false → body.last ≡ true
  pub holds : HoldsBody (number + 1) lines body
  pub count : after ≡ number + length lines + length (dot_if body.ended)
  pub ends : body.last ≡ true → IsAtEnd new
  pub whole : body.last ≡ false → WholeLines taken number after
  pub counts : CountsLines taken number after

-- no further command came before the end
pub record ReadsNone (old new : Option (List ℕ)) (number after : ℕ) : Type 0 where
  pub taken : List ℕ
  pub took : Consumes old new taken
  pub end : IsAtEnd new
  pub none : commands_from (number + 1) taken ≡ []
  pub counts : CountsLines taken number after

-- these bytes are no commands, and then a line came
pub record SkipsToLine (old new : Option (List ℕ)) (number at : ℕ) (buffer : List ℕ) (read : LineRead) : Type 0 where
  pub skipped : List ℕ
  pub line : List ℕ
  pub mid : Option (List ℕ)
  pub took : Consumes old mid skipped
  pub skips : (rest : List ℕ) → commands_from (number + 1) (skipped ++ rest) ≡ commands_from at rest
  pub takes : TakesLine mid new buffer line read
  pub used : is_skipped line ≡ false
  pub before : ℕ
  pub whole : WholeLines skipped number before
  pub next : at ≡ before + 1
  pub more : number < at

abbrev pub ReadsHead : Option (List ℕ) → Option (List ℕ) → ℕ → ℕ → List ℕ → Option LineRead → Type 0
ReadsHead old new number at buffer None = ReadsNone old new number at
ReadsHead old new number at buffer (Some read) = SkipsToLine old new number at buffer read

-- these bytes came, and whatever comes after them, the commands begin with this one
pub record ReadsCommand (cache : CacheState) (old new : Option (List ℕ)) (number after : ℕ) (read : CommandRead) : Type 0 where
  pub taken : List ℕ
  pub command : Command
  pub took : Consumes old new taken
  pub cut : (rest : List ℕ) → (read.body.last ≡ true → rest ≡ []) →
      commands_from (number + 1) (taken ++ rest) ≡ command ∷ commands_from (after + 1) rest
  pub at : read.number ≡ command.number
  pub ended : read.body.ended ≡ command.ended
  pub long : read.body.too_long ≡ first_long command.number (command.line ∷ command.body)
  pub asks : fits command.line ≡ true → ReadsLine cache command.line read.request
  pub text : read.body.dropped ≡ false → read.body.too_long ≡ None → read.body.text.items ≡ text_of_lines command.body
  pub end : command.ended ≡ false → after ≡ command.number + length command.body
  pub unended : command.ended ≡ false → read.body.last ≡ true
  pub ends : read.body.last ≡ true → IsAtEnd new
  pub whole : read.body.last ≡ false → WholeLines taken number after
  pub counts : CountsLines taken number after
  pub more : number < after

abbrev pub ReadsNext : CacheState → Option (List ℕ) → Option (List ℕ) → ℕ → ℕ → Option CommandRead → Type 0
ReadsNext cache old new number after None = ReadsNone old new number after
ReadsNext cache old new number after (Some read) = ReadsCommand cache old new number after read

-- what was read is this command, over this cache; the last line that was read has this number
pub record Describes (cache : CacheState) (last_line : ℕ) (read : CommandRead) (command : Command) : Type 0 where
  pub at : read.number ≡ command.number
  pub ended : read.body.ended ≡ command.ended
  pub long : read.body.too_long ≡ first_long command.number (command.line ∷ command.body)
  pub asks : fits command.line ≡ true → ReadsLine cache command.line read.request
  pub text : read.body.dropped ≡ false → read.body.too_long ≡ None → read.body.text.items ≡ text_of_lines command.body
  pub end : command.ended ≡ false → last_line ≡ command.number + length command.body

-- of the body of a command lines are kept only where its line asks for something
abbrev pub KeepsWhatIsNeeded : Option CommandRead → Type 0
KeepsWhatIsNeeded None = Unit {0}
KeepsWhatIsNeeded (Some read) = IfErr read.request (λ cause. read.body.text.items ≡ [])

-- the run stopped in a body: these bytes of it came, that are whole lines
pub record StopsInBody (old new : Option (List ℕ)) (number max : ℕ) (fault : ReadingFault) : Type 0 where
  pub taken : List ℕ
  pub lines : List (List ℕ)
  pub after : ℕ
  pub mid : Option (List ℕ)
  pub took : Consumes old mid taken
  pub cut : Cuts false taken lines
  pub none : HasNoDot lines
  pub whole : WholeLines taken number after
  pub stops : StopsAfter mid new after max fault

-- the run stopped before a further command was given whole: these bytes came, that are whole lines
pub record StopsReading (old new : Option (List ℕ)) (number max : ℕ) (fault : ReadingFault) : Type 0 where
  pub taken : List ℕ
  pub after : ℕ
  pub mid : Option (List ℕ)
  pub took : Consumes old mid taken
  pub whole : WholeLines taken number after
  pub none : ended_of (commands_from (number + 1) taken) ≡ []
  pub stops : StopsAfter mid new after max fault
