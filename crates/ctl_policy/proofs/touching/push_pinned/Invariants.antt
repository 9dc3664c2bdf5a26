use Rattle.std.proofs.Common.{◌≡◌, ◌++◌}
use Rattle.ctl_policy.specs.Inside.TouchedNames.{pinned_packages}
use Rattle.ctl_policy.proofs.touching.push_pinned.Given as goal

abbrev pub invariant-pins : goal.invariant-pins
invariant-pins l = l.names.items ++ pinned_packages l.left ≡ l.fn.names.items ++ pinned_packages l.fn.pins
