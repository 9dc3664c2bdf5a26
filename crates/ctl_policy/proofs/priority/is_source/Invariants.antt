use Rattle.std.proofs.Common.{◌≡◌, length}
use Rattle.ctl_store.specs.Keys.{AreHeld}
use Rattle.ctl_store.specs.Store.{keyed_of}
use Rattle.ctl_policy.specs.Rows.{is_source}
use Rattle.ctl_policy.proofs.priority.is_source.Given as goal

abbrev pub invariant-keys : goal.invariant-keys
invariant-keys l = AreHeld l.left (keyed_of l.store).lists × (is_source l.list (keyed_of l.store).lists l.left ≡ is_source l.fn.list (keyed_of l.fn.store).lists l.fn.keys)

abbrev pub decreases-keys : goal.decreases-keys
decreases-keys l = length l.left
