use Rattle.std.proofs.Common.{sym, subst}
use Rattle.std.specs.List.{AllByRecursion}
use Rattle.ctl_store.specs.Keys.{AreHeld}
use Rattle.ctl_store.specs.Store.{Held, keyed_of}
use Rattle.probe.proofs.policies.say_package.Goals as goal

pub say_rows-requires : goal.say_rows-requires
say_rows-requires c = subst (λ (h : Held). AllByRecursion (λ keys. AreHeld keys (keyed_of h).lists) c.row_keys.result) (sym c.store.ensures) c.row_keys.ensures.held
