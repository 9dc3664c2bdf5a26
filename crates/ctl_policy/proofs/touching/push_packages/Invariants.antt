use Rattle.std.proofs.Common.{◌≡◌, ◌++◌, length}
use Rattle.ctl_store.specs.Store.{keyed_of}
use Rattle.ctl_store.specs.Keys.{stanza_at}
use Rattle.ctl_policy.specs.Touched.{packages_at}
use Rattle.ctl_policy.proofs.touching.push_packages.Given as goal

abbrev pub invariant-keys : goal.invariant-keys
invariant-keys l = l.names.items ++ packages_at l.left (λ k. stanza_at k (keyed_of l.fn.store).lists) ≡ l.fn.names.items ++ packages_at l.fn.keys (λ k. stanza_at k (keyed_of l.fn.store).lists)

abbrev pub decreases-keys : goal.decreases-keys
decreases-keys l = length l.left
