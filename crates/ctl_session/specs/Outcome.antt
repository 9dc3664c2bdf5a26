-- What a command comes to: what is written for it, and what it leaves.
use Rattle.std.specs.Prelude.{ℕ, ◌+◌, List, [], ◌∷◌, ◌++◌, codes, decimal}
use Rattle.ctl_session.specs.State.{CacheState}
use Rattle.ctl_store.specs.declared.refusal.Refusal.{Refusal}
use Rattle.ctl_store.specs.Refusals.{words_of_refusal}

-- what a command comes to
pub data Outcome : Type 0 where
  -- it is refused, with the line that is named and the cause
  Refused : ℕ → Refusal → Outcome
  -- it is a query, with this answer
  Answered : List ℕ → Outcome
  -- it is an edit, which leaves this state
  Changed : CacheState → Outcome

-- what is written for a command
abbrev pub text_of : Outcome → List ℕ
text_of (Refused line cause) = codes "E: line " ++ decimal line ++ codes ": " ++ words_of_refusal cause ++ codes "\n"
text_of (Answered text) = text
text_of (Changed state) = []

-- the state after a command: only an edit changes it
abbrev pub state_after : CacheState → Outcome → CacheState
state_after old (Refused line cause) = old
state_after old (Answered text) = old
state_after old (Changed new) = new

-- what is written for commands
abbrev pub text_of_all : List Outcome → List ℕ
text_of_all [] = []
text_of_all (outcome ∷ outcomes) = text_of outcome ++ text_of_all outcomes

-- the state after commands
abbrev pub state_after_all : CacheState → List Outcome → CacheState
state_after_all state [] = state
state_after_all state (outcome ∷ outcomes) = state_after_all (state_after state outcome) outcomes

-- how many commands were refused, and how many were not
abbrev pub refused_in : List Outcome → ℕ
refused_in [] = 0
refused_in (Refused line cause ∷ outcomes) = 1 + refused_in outcomes
refused_in (Answered text ∷ outcomes) = refused_in outcomes
refused_in (Changed state ∷ outcomes) = refused_in outcomes

abbrev pub accepted_in : List Outcome → ℕ
accepted_in [] = 0
accepted_in (Refused line cause ∷ outcomes) = accepted_in outcomes
accepted_in (Answered text ∷ outcomes) = 1 + accepted_in outcomes
accepted_in (Changed state ∷ outcomes) = 1 + accepted_in outcomes
