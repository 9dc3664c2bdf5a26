use Rattle.std.proofs.Common.{◌∙◌, ◌∷◌, ◌++◌, [], Some, cond, ap, sym}
use Rattle.std.specs.Ordering.{is_eq}
use Rattle.ctl_index.specs.Clauses.{clause_cmp, number_among}
use Rattle.ctl_index.specs.Inside.ClauseNumbers.{Placed}
use Rattle.ctl_index.specs.Inside.TablesWaiting.{come_of}
use Rattle.ctl_index.proofs.ClauseNumberLemmas.{come_of-push}
use Rattle.ctl_index.proofs.counters.Counters.wait.Goals as goal

pub returns : goal.returns
returns c = λ k.
    let s = c.begin.new.self in
    let old : Placed = s.waiting.clauses.items in
    let n = number_among s.numbers k in
    (λ i. come_of (c.in_ok-begin.ensures.stanza i) (c.in_ok-push.ensures.items i) k n)
    ∙ (λ i. come_of (Some c.args.clause.stanza) (old ++ (c.of.ensures i, c.new.ensures i) ∷ []) k n)
    ∙ come_of-push c.args.clause.stanza old _ c.args.number k n
    ∙ ap (cond (is_eq (clause_cmp c.args.clause k)) (Some c.args.number)) ((λ i. come_of (sym c.in_ok-begin.ensures.stanza i) old k n) ∙ c.in_ok-begin.ensures.told k)
