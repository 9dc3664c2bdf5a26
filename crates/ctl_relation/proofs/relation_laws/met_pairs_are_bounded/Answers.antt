use Rattle.ctl_relation.proofs.MetSums.{met_pairs-none, met_pairs-le}
use Rattle.ctl_relation.proofs.relation_laws.met_pairs_are_bounded.Goals as goal

pub returns-clause-none : goal.returns-clause-none
returns-clause-none c = met_pairs-none

pub returns-clause-most : goal.returns-clause-most
returns-clause-most c = met_pairs-le
