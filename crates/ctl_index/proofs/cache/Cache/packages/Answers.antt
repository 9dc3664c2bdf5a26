use Rattle.std.proofs.Common.{ap, ◌∙◌}
use Rattle.ctl_store.specs.Store.{keyed_of}
use Rattle.ctl_policy.specs.Priority.{world_of}
use Rattle.ctl_policy.specs.Rows.{has_row}
use Rattle.ctl_index.specs.HeldCache.{HeldCache}
use Rattle.ctl_index.proofs.AllRowsLemmas.{entries_found}
use Rattle.ctl_index.proofs.CandidateLemmas.{rows_sorted, told_any}
use Rattle.ctl_index.proofs.cache.Cache.packages.Goals as goal

pub returns-clause-order : goal.returns-clause-order
returns-clause-order c = rows_sorted c.entries-entries.result c.entries-entries.ensures.order

pub returns-clause-members : goal.returns-clause-members
returns-clause-members c = λ name.
    let h = c.self.inside.store in
    let m = c.self.inside.tables.names.map in
    let es = c.entries-entries.result in
    let fresh = ap (λ w. w.stale) c.self.view_is ∙ c.requires in
    told_any c.rows_are_shown.ensures.alike c.rows_are_shown.ensures.none m (world_of h) (c.rows_are_defined.ensures h m c.counts-counts.ensures.order (c.self.invariant fresh).0.rows) (c.self.invariant fresh).1 es
    (entries_found m es c.entries-entries.ensures.order c.entries-entries.ensures.found) name (c.entries-entries.ensures.found name)
    ∙ ap (λ (w : HeldCache). has_row name (keyed_of w.store).lists) c.self.view_is
