use Rattle.std.proofs.Common.{◌≡◌, map}
use Rattle.ctl_policy.specs.Priority.{greatest_with, world_of}
use Rattle.ctl_policy.specs.Inside.RowBound.{greatest_of_lists, shown_priority}
use Rattle.ctl_policy.proofs.priority.greatest_of_lists.Given as goal

abbrev pub invariant-lists : goal.invariant-lists
invariant-lists l = greatest_with l.greatest (map (shown_priority (world_of l.store)) l.left) ≡ greatest_of_lists l.fn.store
