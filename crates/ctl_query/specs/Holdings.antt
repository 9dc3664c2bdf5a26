-- What queries are answered from.
use Rattle.std.specs.Prelude.{ℕ, ℤ, List, Option}
use Rattle.ctl_store.specs.declared.selector.Selector.{Selector}
use Rattle.ctl_store.specs.State.{State, StanzaList, Marks}

-- The lists, marks, pins and target of a state. How many edits made it is not among them, so no answer depends on that.
pub record Holdings : Type 0 where
  pub lists : List (List ℕ × StanzaList)
  pub marks : Marks
  pub pins : List (Selector × ℤ)
  pub target : Option (List ℕ)

abbrev pub holdings_of : State → Holdings
holdings_of state = record { lists = state.lists; marks = state.marks; pins = state.pins; target = state.target }
