use Rattle.std.proofs.Common.{ap, sym, ◌∙◌}
use Rattle.ctl_store.specs.Store.{keyed_of}
use Rattle.ctl_policy.specs.Rows.{newest_first, is_any_row, has_row}
use Rattle.ctl_index.specs.HeldCache.{HeldCache}
use Rattle.ctl_index.specs.Inside.TablesByName.{rows_under}
use Rattle.ctl_index.proofs.RowLemmas.{not_bare}
use Rattle.ctl_index.proofs.cache.Cache.has_row.Goals as goal

pub returns-in-Some : goal.returns-in-Some
returns-in-Some c =
    let h = c.self.inside.store in
    let m = c.self.inside.tables.names.map in
    let name = c.args.name.now in
    let lists = (keyed_of h).lists in
    let fresh = ap (λ w. w.stale) c.self.view_is ∙ c.requires in
    let rows = c.rows_are_defined.ensures h m c.counts-counts.ensures.order (c.self.invariant fresh).0.rows name in
    not_bare c.is_empty.result (newest_first c.in-Some.rows.now) c.is_empty.ensures.none c.is_empty.ensures.some
    ∙ ap (λ r. is_any_row (newest_first r)) c.in-Some.ensures.some ∙ ap is_any_row (c.rows_are_shown.ensures.alike (rows_under m name) name lists rows)
    ∙ ap (λ (w : HeldCache). has_row name (keyed_of w.store).lists) c.self.view_is

pub returns-in-None : goal.returns-in-None
returns-in-None c =
    let h = c.self.inside.store in
    let m = c.self.inside.tables.names.map in
    let name = c.args.name.now in
    let lists = (keyed_of h).lists in
    let fresh = ap (λ w. w.stale) c.self.view_is ∙ c.requires in
    let rows = c.rows_are_defined.ensures h m c.counts-counts.ensures.order (c.self.invariant fresh).0.rows name in
    sym (ap (λ r. is_any_row (newest_first r)) c.in-None.ensures.none ∙ ap is_any_row c.rows_are_shown.ensures.none)
    ∙ ap is_any_row (c.rows_are_shown.ensures.alike (rows_under m name) name lists rows)
    ∙ ap (λ (w : HeldCache). has_row name (keyed_of w.store).lists) c.self.view_is
