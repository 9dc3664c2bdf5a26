use Rattle.ctl_store.specs.Store.{keyed_of}
use Rattle.ctl_policy.specs.Inside.HeldRead.{IsReadSoFar}
use Rattle.ctl_policy.proofs.walk.read_rows.Given as goal

abbrev pub invariant-entries : goal.invariant-entries
invariant-entries l = IsReadSoFar l.fn.name l.rows l.left (keyed_of l.fn.store).lists
