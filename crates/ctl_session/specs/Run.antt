-- A run: what a script's commands come to, one after another, and where a run may stop.
use Rattle.std.specs.Prelude.{◌≡◌, ℕ, ◌<◌, List, [], ◌∷◌, ◌++◌, Option, Bool, true, length, take}
use Rattle.std.specs.Io.KnownBytes.{Consumes, IsAtEnd, Appends}
use Rattle.ctl_stanza.specs.Lines.{text_of_lines}
use Rattle.ctl_index.specs.HeldCache.{HeldCache}
use Rattle.ctl_session.specs.State.{CacheState, cache_state}
use Rattle.ctl_session.specs.Script.{Command, commands_of, AreLines, IsWithin, whole_commands_of, whole_commands_in}
use Rattle.ctl_session.specs.LineReading.{IsPast}
use Rattle.ctl_session.specs.Outcome.{Outcome, text_of, text_of_all, state_after, state_after_all, accepted_in, refused_in}
use Rattle.ctl_session.specs.Effect.{MayCome}
use Rattle.ctl_session.specs.declared.summary.Summary.{Summary}
use Rattle.ctl_session.specs.declared.fault.Fault.{Fault}
use Rattle.ctl_session.specs.declared.fault.Fault.TheVariants.{Read, Write, TooManyLines}

-- these commands are the first of all
abbrev pub BeginWith : List Command → List Command → Type 0
BeginWith first all = (others : List Command) × (all ≡ first ++ others)

-- commands come to these outcomes, one after another
abbrev pub Runs : CacheState → List Command → List Outcome → Type 0
Runs state [] [] = Unit {0}
Runs state [] (outcome ∷ outcomes) = ⊥
Runs state (command ∷ commands) [] = ⊥
Runs state (command ∷ commands) (outcome ∷ outcomes) = MayCome state command outcome × Runs (state_after state outcome) commands outcomes

-- where a run stands: what is held, what the reader gives from here on, and what the writer has taken
pub record Standing : Type 0 where
  pub held : CacheState
  pub given : Option (List ℕ)
  pub taken : Option (List ℕ)

abbrev pub standing : HeldCache → Option (List ℕ) → Option (List ℕ) → Standing
standing cache given taken = record { held = cache_state cache; given = given; taken = taken }

-- a whole run: what the reader gave is a script within the limit of lines, and what the writer took is the text of its commands
pub record Ran (max : ℕ) (old new : Standing) (summary : Summary) : Type 0 where
  pub script : List ℕ
  pub outcomes : List Outcome
  pub gave : Consumes old.given new.given script
  pub end : IsAtEnd new.given
  pub within : IsWithin max script
  pub runs : Runs old.held (commands_of script) outcomes
  pub wrote : Appends old.taken new.taken (text_of_all outcomes)
  pub state : new.held ≡ state_after_all old.held outcomes
  pub counts_accepted : summary.accepted ≡ accepted_in outcomes
  pub counts_refused : summary.refused ≡ refused_in outcomes

-- a run that a failed write stopped: the last command that was done is written in part
pub record StoppedInWrite (old new : Standing) : Type 0 where
  -- what was used of what the reader gave, and what was read ahead and dropped
  pub script : List ℕ
  pub ahead : List ℕ
  -- the last command's outcome, those before it, and how much of the last one's text was written
  pub outcome : Outcome
  pub outcomes : List Outcome
  pub part : ℕ
  pub gave : Consumes old.given new.given (script ++ ahead)
  -- The last command was given whole: whatever comes after it, the commands begin with these. Or the input ended with it.
  pub last : Bool
  pub whole : (rest : List ℕ) → (last ≡ true → rest ≡ []) → BeginWith (commands_of script) (commands_of (script ++ rest))
  pub end : last ≡ true → IsAtEnd new.given × (ahead ≡ [])
  pub runs : Runs old.held (commands_of script) (outcomes ++ outcome ∷ [])
  pub short : part < length (text_of outcome)
  pub wrote : Appends old.taken new.taken (text_of_all outcomes ++ take part (text_of outcome))
  pub state : new.held ≡ state_after_all old.held (outcomes ++ outcome ∷ [])

-- a run that a failed read stopped: what is written is the text of the commands that the reader gave whole
pub record StoppedInRead (max : ℕ) (old new : Standing) : Type 0 where
  -- all that the reader gave, which is within the limit of lines
  pub script : List ℕ
  pub outcomes : List Outcome
  pub gave : Consumes old.given new.given script
  pub within : IsWithin max script
  pub runs : Runs old.held (whole_commands_of script) outcomes
  pub wrote : Appends old.taken new.taken (text_of_all outcomes)
  pub state : new.held ≡ state_after_all old.held outcomes

-- a run that came past its limit: what is written is the text of the commands that were given whole within it
pub record StoppedPastLimit (max : ℕ) (old new : Standing) : Type 0 where
  -- the lines within the limit, what came of the next one, and what was read ahead and dropped
  pub lines : List (List ℕ)
  pub over : List ℕ
  pub ahead : List ℕ
  pub outcomes : List Outcome
  pub gave : Consumes old.given new.given (text_of_lines lines ++ (over ++ ahead))
  pub within : AreLines lines
  pub past : IsPast max (length lines) over
  pub runs : Runs old.held (whole_commands_in lines) outcomes
  pub wrote : Appends old.taken new.taken (text_of_all outcomes)
  pub state : new.held ≡ state_after_all old.held outcomes

-- what a run leaves that stopped before its end
abbrev pub Stopped : ℕ → Standing → Standing → Fault → Type 0
Stopped max old new Read = StoppedInRead max old new
Stopped max old new Write = StoppedInWrite old new
Stopped max old new TooManyLines = StoppedPastLimit max old new
