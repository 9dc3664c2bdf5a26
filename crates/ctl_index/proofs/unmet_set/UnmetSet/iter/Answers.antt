use Rattle.std.proofs.Common.{subst}
use Rattle.std.specs.BTreeSet.{BTreeSet, IsOrdered}
use Rattle.ctl_index.specs.declared.keys.ClauseKey.{ClauseKey}
use Rattle.ctl_index.specs.Clauses.{clause_cmp}
use Rattle.ctl_index.proofs.UnmetSetLemmas.{unmet_in_order}
use Rattle.ctl_index.proofs.unmet_set.UnmetSet.iter.Goals as goal

pub returns-clause-ordered : goal.returns-clause-ordered
returns-clause-ordered c =
    subst (λ (s : BTreeSet ClauseKey). IsOrdered clause_cmp s) c.self.view_is (unmet_in_order c.self.inside.places.entries c.self.invariant)
