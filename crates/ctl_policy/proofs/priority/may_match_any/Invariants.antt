use Rattle.std.proofs.Common.{◌≡◌, ℕ, List}
use Rattle.ctl_store.specs.declared.stanza_key.StanzaKey.{StanzaKey}
use Rattle.ctl_store.specs.Store.{keyed_of}
use Rattle.ctl_policy.specs.Priority.{specific_pin}
use Rattle.ctl_policy.proofs.priority.may_match_any.Given as goal

-- none of those that were looked at matches a row
abbrev pub invariant-pins : goal.invariant-pins
invariant-pins l = (name : List ℕ) (keys : List StanzaKey) → specific_pin name (keyed_of l.store).lists keys l.left ≡ specific_pin name (keyed_of l.fn.store).lists keys l.fn.pins
