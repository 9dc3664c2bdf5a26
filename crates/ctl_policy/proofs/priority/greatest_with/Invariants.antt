use Rattle.std.proofs.Common.{◌≡◌, IfSome, length}
use Rattle.ctl_store.specs.Keys.{AreHeld}
use Rattle.ctl_store.specs.Store.{keyed_of}
use Rattle.ctl_policy.specs.Inside.KnownLists.{IsKnownPriority}
use Rattle.ctl_policy.specs.Priority.{world_of, greatest_with, source_priorities}
use Rattle.ctl_policy.proofs.priority.greatest_with.Given as goal

abbrev pub invariant-keys : goal.invariant-keys
invariant-keys l =
    AreHeld l.left (keyed_of l.store).lists
    × IfSome l.known (λ one. IsKnownPriority one (world_of l.store))
    × (greatest_with l.greatest (source_priorities (world_of l.store) l.left) ≡ greatest_with l.fn.priority (source_priorities (world_of l.fn.store) l.fn.keys))

abbrev pub decreases-keys : goal.decreases-keys
decreases-keys l = length l.left
