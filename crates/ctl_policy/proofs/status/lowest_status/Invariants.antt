use Rattle.std.proofs.Common.{◌≡◌, IfSome, None}
use Rattle.ctl_store.specs.Store.{keyed_of}
use Rattle.ctl_policy.specs.Inside.HeldWalk.{AreHeldIn, lowest_status}
use Rattle.ctl_policy.specs.Inside.KnownLists.{IsKnownStatus}
use Rattle.ctl_policy.proofs.status.lowest_status.Given as goal

abbrev pub invariant-rows : goal.invariant-rows
invariant-rows l =
    AreHeldIn (keyed_of l.store).lists l.left
    × IfSome l.known (λ one. IsKnownStatus one (keyed_of l.store).lists)
    × (lowest_status (keyed_of l.store).lists l.lowest l.left ≡ lowest_status (keyed_of l.fn.store).lists None l.fn.rows.entries)
