use Rattle.std.proofs.Common.{subst}
use Rattle.std.specs.List.{AllByRecursion}
use Rattle.ctl_store.specs.Store.{Held, keyed_of}
use Rattle.ctl_store.specs.Keys.{AreHeld}
use Rattle.ctl_query.proofs.asking.Asking.rows.Goals as goal

pub returns-clause-held : goal.returns-clause-held
returns-clause-held c = subst (λ (store : Held). AllByRecursion (λ row. AreHeld row (keyed_of store).lists) c.row_keys.result) c.self.view_is c.row_keys.ensures.held
