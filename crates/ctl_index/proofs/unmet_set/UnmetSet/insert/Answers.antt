use Rattle.std.proofs.Common.{◌∙◌, ap, cond, true, Bool, Some}
use Rattle.std.specs.BTreeMap.{BTreeMap}
use Rattle.std.specs.BTreeSet.{BTreeSet, contains}
use Rattle.std.specs.Ordering.{is_eq}
use Rattle.ctl_index.specs.declared.keys.ClauseKey.{ClauseKey}
use Rattle.ctl_index.specs.Clauses.{clause_cmp}
use Rattle.ctl_index.proofs.UnmetSetLemmas.{place_written}
use Rattle.ctl_index.proofs.unmet_set.UnmetSet.insert.Goals as goal

pub returns-clause-ok : goal.returns-clause-ok
returns-clause-ok c = λ k.
    let m : BTreeMap ClauseKey Bool = c.self.inside.places in
    place_written m c.insert.new.self c.args.key (Some true) c.in_ok-insert.ensures.was_ordered c.in_ok-insert.ensures.ordered c.in_ok-insert.ensures.updates.0 k
    ∙ ap (λ (s : BTreeSet ClauseKey). cond (is_eq (clause_cmp c.args.key k)) true (contains clause_cmp s k)) c.self.view_is
