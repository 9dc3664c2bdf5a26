-- A script, and how it is cut into commands.
use Rattle.std.specs.Prelude.{ℕ, ◌+◌, List, [], ◌∷◌, ◌<◌, ◌^◌, ◌&&◌, ◌||◌, ◌==◌, ◌≤◌}
use Rattle.std.specs.Prelude.{Option, None, Some, Bool, true, false, not, if◌then◌else◌, nat_le, length, codes}
use Rattle.std.specs.Str.{bytes_eq}
use Rattle.ctl_relation.specs.Bytes.{newline, hash, dot}
use Rattle.ctl_stanza.specs.Lines.{max_line, lines_of, is_blank_byte}
use Rattle.ctl_session.specs.LineReading.{IsOneLine}

-- what is left without the blanks at the front
abbrev pub without_blanks : List ℕ → List ℕ
without_blanks [] = []
without_blanks (b ∷ bytes) = if is_blank_byte b then without_blanks bytes else b ∷ bytes

-- the bytes up to the next blank
abbrev pub first_word : List ℕ → List ℕ
first_word [] = []
first_word (b ∷ bytes) = if is_blank_byte b then [] else b ∷ first_word bytes

-- the name of a command
abbrev pub name_of : List ℕ → List ℕ
name_of line = first_word (without_blanks line)

-- there is nothing to do: the rest of a line has no byte, or begins a comment
abbrev pub is_idle : List ℕ → Bool
is_idle [] = true
is_idle (b ∷ bytes) = b == hash

-- the line may not be longer
abbrev pub fits : List ℕ → Bool
fits line = nat_le (length line) max_line

-- a line that is no command: blank, or a comment
abbrev pub is_skipped : List ℕ → Bool
is_skipped line = fits line && is_idle (without_blanks line)

-- the commands that have a body
abbrev pub names_body : List ℕ → Bool
names_body name = bytes_eq name (codes "add-list") || (bytes_eq name (codes "put") || bytes_eq name (codes "prefs"))

-- a line after which a body comes
abbrev pub opens_body : List ℕ → Bool
opens_body line = fits line && names_body (name_of line)

-- the line that ends a body
abbrev pub is_dot : List ℕ → Bool
is_dot [] = false
is_dot (b ∷ []) = b == dot
is_dot (b ∷ c ∷ bytes) = false

-- the lines of a body: up to the one that ends it, or all
abbrev pub body_of : List (List ℕ) → List (List ℕ)
body_of [] = []
body_of (line ∷ lines) = if is_dot line then [] else line ∷ body_of lines

-- the body has its end
abbrev pub has_end : List (List ℕ) → Bool
has_end [] = false
has_end (line ∷ lines) = if is_dot line then true else has_end lines

-- a command: the number of its line, the line, and its body, which may lack its end
pub record Command : Type 0 where
  pub number : ℕ
  pub line : List ℕ
  pub body : List (List ℕ)
  pub ended : Bool

-- the command of a line, before these lines
abbrev pub command_at : ℕ → List ℕ → List (List ℕ) → Command
command_at number line lines = if opens_body line
    then record { number = number; line = line; body = body_of lines; ended = has_end lines }
    else record { number = number; line = line; body = []; ended = true }

-- the commands of lines that are numbered from here, the first of which may stand in a body
abbrev pub commands_in : Bool → ℕ → List (List ℕ) → List Command
commands_in in_body number [] = []
commands_in true number (line ∷ lines) = commands_in (not (is_dot line)) (number + 1) lines
commands_in false number (line ∷ lines) = if is_skipped line
    then commands_in false (number + 1) lines
    else command_at number line lines ∷ commands_in (opens_body line) (number + 1) lines

-- the commands of a text whose lines are numbered from here
abbrev pub commands_from : ℕ → List ℕ → List Command
commands_from number text = commands_in false number (lines_of text)

-- the commands of a script
abbrev pub commands_of : List ℕ → List Command
commands_of script = commands_from 1 script

-- a byte in front of the first line that is given whole
abbrev pub onto_whole : ℕ → List (List ℕ) → List (List ℕ)
onto_whole b [] = []
onto_whole b (line ∷ lines) = (b ∷ line) ∷ lines

-- the lines of a text that are given whole: a newline ends each of them
abbrev pub whole_lines_of : List ℕ → List (List ℕ)
whole_lines_of [] = []
whole_lines_of (b ∷ bytes) = if b == newline then [] ∷ whole_lines_of bytes else onto_whole b (whole_lines_of bytes)

-- those of the commands that have their end
abbrev pub ended_of : List Command → List Command
ended_of [] = []
ended_of (command ∷ commands) = if command.ended then command ∷ ended_of commands else ended_of commands

-- the commands of these lines that are given whole, each with all of its body
abbrev pub whole_commands_in : List (List ℕ) → List Command
whole_commands_in lines = ended_of (commands_in false 1 lines)

-- the commands of a script that are given whole
abbrev pub whole_commands_of : List ℕ → List Command
whole_commands_of script = whole_commands_in (whole_lines_of script)

-- the number of the first line that is too long
abbrev pub first_long : ℕ → List (List ℕ) → Option ℕ
first_long number [] = None
first_long number (line ∷ lines) = if fits line then first_long (number + 1) lines else Some number

-- no line has a newline in it, or as many bytes as can't be counted
abbrev pub AreLines : List (List ℕ) → Type 0
AreLines [] = Unit {0}
AreLines (line ∷ lines) = (IsOneLine line × (length line < 2 ^ 32)) × AreLines lines

-- a script is within a limit: it has so many lines at most, and none of as many bytes as can't be counted
abbrev pub IsWithin : ℕ → List ℕ → Type 0
IsWithin max script = (length (lines_of script) ≤ max) × AreLines (lines_of script)
