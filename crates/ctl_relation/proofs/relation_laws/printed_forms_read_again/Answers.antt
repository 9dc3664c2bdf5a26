use Rattle.ctl_relation.proofs.PrintedAgain.{atoms_read_again, groups_read_again}
use Rattle.ctl_relation.proofs.relation_laws.printed_forms_read_again.Goals as goal

pub returns-clause-atoms : goal.returns-clause-atoms
returns-clause-atoms c = atoms_read_again

pub returns-clause-groups : goal.returns-clause-groups
returns-clause-groups c = groups_read_again
