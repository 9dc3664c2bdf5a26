use Rattle.std.proofs.Common.{◌≡◌}
use Rattle.ctl_store.specs.Store.{keyed_of}
use Rattle.ctl_policy.specs.Priority.{specific_pin}
use Rattle.ctl_policy.proofs.priority.first_match.Given as goal

abbrev pub invariant-pins : goal.invariant-pins
invariant-pins l = specific_pin l.name (keyed_of l.store).lists l.keys l.left ≡ specific_pin l.fn.name (keyed_of l.fn.store).lists l.fn.keys l.fn.pins
