use Rattle.std.proofs.Common.{subst, sym}
use Rattle.std.specs.List.{AllByRecursion}
use Rattle.ctl_store.specs.Store.{Held, keyed_of}
use Rattle.ctl_store.specs.Keys.{AreHeld, AreRising, all_keys}
use Rattle.ctl_query.proofs.RowRisingLemmas.{rows_rise}
use Rattle.ctl_query.proofs.asking.Asking.view.Goals as goal

pub returns-clause-held : goal.returns-clause-held
returns-clause-held c = subst (λ (store : Held). AllByRecursion (λ row. AreHeld row (keyed_of store).lists) c.name_view.result.rows) c.self.view_is c.name_view.ensures.held

pub returns-clause-rising : goal.returns-clause-rising
returns-clause-rising c =
    let store = c.self.inside.cache.now.store in
    subst (AllByRecursion AreRising) (sym c.name_view.ensures.rows)
    (rows_rise c.rows_are_classes.ensures c.args.name.now (keyed_of store).lists (subst (λ (s : Held). AreRising (all_keys (keyed_of s).lists)) c.store.ensures c.counts-counts.ensures.order))
