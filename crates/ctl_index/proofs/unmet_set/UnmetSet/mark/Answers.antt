use Rattle.std.proofs.Common.{◌≡◌, ◌∙◌, ap, sym, false}
use Rattle.std.specs.BTreeSet.{BTreeSet, contains}
use Rattle.std.specs.Ordering.{is_ge}
use Rattle.ctl_index.specs.declared.keys.ClauseKey.{ClauseKey}
use Rattle.ctl_index.specs.Clauses.{clause_cmp}
use Rattle.ctl_index.proofs.CounterLemmas.{marked_already}
use Rattle.ctl_index.proofs.UnmetSetLemmas.{above_last}
use Rattle.ctl_index.proofs.unmet_set.UnmetSet.mark.Goals as goal

pub returns-else-is_ge-clause-ok : goal.returns-else-is_ge-clause-ok
returns-else-is_ge-clause-ok c =
    let not_at : is_ge (clause_cmp c.in-Some.last.now c.args.key) ≡ false =
    ap is_ge (sym c.cmp.ensures) ∙ sym c.is_ge.ensures ∙ c.if-is_ge.false in
    let without : contains clause_cmp c.args.self.now c.args.key ≡ c.args.is_unmet =
    ap (λ (s : BTreeSet ClauseKey). contains clause_cmp s c.args.key) (sym c.self.view_is)
    ∙ above_last c.self.inside.places c.in-Some.last.now c.args.key c.in-Some.ensures.all_up_to not_at
    ∙ sym c.if-is_unmet.false in
    marked_already c.args.self.now c.args.key c.args.is_unmet without
