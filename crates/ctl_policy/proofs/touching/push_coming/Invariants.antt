use Rattle.std.proofs.Common.{◌≡◌, ◌++◌, length}
use Rattle.ctl_store.specs.Keys.{coming, AreComing}
use Rattle.ctl_policy.specs.Touched.{packages_at}
use Rattle.ctl_policy.proofs.touching.push_coming.Given as goal

abbrev pub invariant-keys : goal.invariant-keys
invariant-keys l = record {
  names : l.names.items ++ packages_at l.left (coming l.fn.plan.edit) ≡ l.fn.names.items ++ packages_at l.fn.keys (coming l.fn.plan.edit);
  coming : AreComing l.left l.fn.plan.edit;
}

abbrev pub decreases-keys : goal.decreases-keys
decreases-keys l = length l.left
