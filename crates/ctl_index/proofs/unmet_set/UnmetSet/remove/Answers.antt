use Rattle.std.proofs.Common.{◌∙◌, ap, cond, false, Bool, None}
use Rattle.std.specs.BTreeMap.{BTreeMap}
use Rattle.std.specs.BTreeSet.{BTreeSet, contains}
use Rattle.std.specs.Ordering.{is_eq}
use Rattle.ctl_index.specs.declared.keys.ClauseKey.{ClauseKey}
use Rattle.ctl_index.specs.Clauses.{clause_cmp}
use Rattle.ctl_index.proofs.UnmetSetLemmas.{place_written}
use Rattle.ctl_index.proofs.unmet_set.UnmetSet.remove.Goals as goal

pub returns : goal.returns
returns c = λ k.
    let m : BTreeMap ClauseKey Bool = c.self.inside.places in
    place_written m c.remove.new.self c.args.key None c.self.invariant c.remove.ensures.ordered c.remove.ensures.updates.0 k
    ∙ ap (λ (s : BTreeSet ClauseKey). cond (is_eq (clause_cmp c.args.key k)) false (contains clause_cmp s k)) c.self.view_is
