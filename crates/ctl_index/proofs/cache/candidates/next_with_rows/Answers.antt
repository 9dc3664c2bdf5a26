use Rattle.std.proofs.Common.{◌≡◌, ◌∷◌, List, ap, sym, ◌∙◌}
use Rattle.ctl_index.specs.Inside.NameMap.{NamedEntry}
use Rattle.ctl_index.specs.Inside.TablesViews.{with_rows}
use Rattle.ctl_index.proofs.CandidateLemmas.{shows_rows, passes_rows}
use Rattle.ctl_index.proofs.cache.candidates.next_with_rows.Goals as goal

pub returns-then-has_rows-clause-some : goal.returns-then-has_rows-clause-some
returns-then-has_rows-clause-some c =
    let new : List NamedEntry = c.next.new.self in
    let e : NamedEntry = (c.in-Some.name.now, c.in-Some.named.now) in
    let left : c.names.entries ≡ e ∷ new = c.in-Some.ensures.steps in
    sym c.names.invariant ∙ ap with_rows left ∙ shows_rows e new (sym c.has_rows.ensures ∙ c.if-has_rows.true)

pub names-preserved : goal.names-preserved
names-preserved c =
    let new : List NamedEntry = c.next.new.self in
    let e : NamedEntry = (c.in-Some.name.now, c.in-Some.named.now) in
    let left : c.names.entries ≡ e ∷ new = c.in-Some.ensures.steps in
    sym (passes_rows e new (sym c.has_rows.ensures ∙ c.if-has_rows.false)) ∙ sym (ap with_rows left) ∙ c.names.invariant
