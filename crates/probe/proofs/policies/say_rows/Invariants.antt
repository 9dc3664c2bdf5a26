use Rattle.std.specs.List.{AllByRecursion}
use Rattle.ctl_store.specs.Keys.{AreHeld}
use Rattle.ctl_store.specs.Store.{keyed_of}
use Rattle.probe.proofs.policies.say_rows.Given as goal

abbrev pub invariant-rows : goal.invariant-rows
invariant-rows l = AllByRecursion (λ keys. AreHeld keys (keyed_of l.store).lists) l.left
