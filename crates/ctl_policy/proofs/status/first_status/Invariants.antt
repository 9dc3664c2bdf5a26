use Rattle.std.proofs.Common.{◌≡◌, IfSome, length}
use Rattle.ctl_store.specs.Keys.{AreHeld}
use Rattle.ctl_store.specs.Store.{keyed_of}
use Rattle.ctl_policy.specs.Inside.HeldWalk.{first_status}
use Rattle.ctl_policy.specs.Inside.KnownLists.{IsKnownStatus}
use Rattle.ctl_policy.proofs.status.first_status.Given as goal

abbrev pub invariant-keys : goal.invariant-keys
invariant-keys l =
    AreHeld l.left (keyed_of l.store).lists
    × IfSome l.known (λ one. IsKnownStatus one (keyed_of l.store).lists)
    × (first_status (keyed_of l.store).lists l.left ≡ first_status (keyed_of l.fn.store).lists l.fn.keys)

abbrev pub decreases-keys : goal.decreases-keys
decreases-keys l = length l.left
