use Rattle.std.proofs.Common.{ℕ, List, ap, sym, subst, ◌∙◌}
use Rattle.std.specs.Cmp.Lexicographic.{slice_cmp}
use Rattle.std.specs.List.Sorted.{IsStrictlySortedBy}
use Rattle.std.specs.Ordering.{nat_cmp}
use Rattle.ctl_policy.specs.Chosen.{kept_of}
use Rattle.ctl_policy.specs.Priority.{world_of}
use Rattle.ctl_index.specs.HeldCache.{HeldCache}
use Rattle.ctl_index.specs.Inside.TablesViews.{with_rows}
use Rattle.ctl_index.proofs.AllRowsLemmas.{entries_found}
use Rattle.ctl_index.proofs.CandidateLemmas.{rows_sorted, told_kept, told_names}
use Rattle.ctl_index.proofs.cache.Cache.candidates.Goals as goal

pub returns-clause-order : goal.returns-clause-order
returns-clause-order c =
    let es = c.entries-entries.result in
    subst (λ (names : List (List ℕ)). IsStrictlySortedBy (slice_cmp nat_cmp) names) (sym (told_names (with_rows es))) (rows_sorted es c.entries-entries.ensures.order)

pub returns-clause-each : goal.returns-clause-each
returns-clause-each c = λ name.
    let h = c.self.inside.store in
    let m = c.self.inside.tables.names.map in
    let es = c.entries-entries.result in
    let fresh = ap (λ w. w.stale) c.self.view_is ∙ c.requires in
    told_kept c.rows_are_shown.ensures.alike c.rows_are_shown.ensures.none m (world_of h) (c.rows_are_defined.ensures h m c.counts-counts.ensures.order (c.self.invariant fresh).0.rows) (c.self.invariant fresh).1 es
    (entries_found m es c.entries-entries.ensures.order c.entries-entries.ensures.found) name (c.entries-entries.ensures.found name)
    ∙ ap (λ (w : HeldCache). kept_of name (world_of w.store)) c.self.view_is
