use Rattle.std.proofs.Common.{ap, sym, subst, ◌∙◌}
use Rattle.std.specs.List.{AllByRecursion}
use Rattle.ctl_store.specs.Keys.{AreHeld}
use Rattle.ctl_store.specs.Store.{keyed_of}
use Rattle.ctl_policy.specs.Rows.{Rows, AreRowsOf}
use Rattle.ctl_index.specs.HeldCache.{HeldCache}
use Rattle.ctl_index.proofs.cache.Cache.row_keys.Goals as goal

pub returns-in-Some-clause-held : goal.returns-in-Some-clause-held
returns-in-Some-clause-held c =
    let h = c.self.inside.store in
    let lists = (keyed_of h).lists in
    let name = c.args.name.now in
    let fresh = ap (λ w. w.stale) c.self.view_is ∙ c.requires in
    let are = c.rows_are_defined.ensures h c.self.inside.tables.names.map c.counts-counts.ensures.order (c.self.invariant fresh).0.rows name in
    subst (λ (w : HeldCache). AllByRecursion (λ row. AreHeld row (keyed_of w.store).lists) c.iter.result) c.self.view_is
    (subst (AllByRecursion (λ row. AreHeld row lists)) (sym c.iter.ensures) (c.rows_are_held.ensures.rows c.in-Some.rows.now name lists (subst (λ (rows : Rows). AreRowsOf rows name lists) (sym c.in-Some.ensures.some) are)))
