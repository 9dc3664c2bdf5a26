use Rattle.std.proofs.Common.{◌≡◌}
use Rattle.std.specs.Map.{lookup}
use Rattle.ctl_store.specs.Pins.{selector_eq}
use Rattle.ctl_policy.proofs.again.priority_among.Given as goal

abbrev pub invariant-pins : goal.invariant-pins
invariant-pins l = lookup (selector_eq l.selector) l.left ≡ lookup (selector_eq l.fn.selector) l.fn.pins
