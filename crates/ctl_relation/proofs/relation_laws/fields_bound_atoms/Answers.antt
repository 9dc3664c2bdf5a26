use Rattle.ctl_relation.proofs.GroupBounds.{groups_have_atoms, atoms_take_bytes}
use Rattle.ctl_relation.proofs.relation_laws.fields_bound_atoms.Goals as goal

pub returns-clause-some : goal.returns-clause-some
returns-clause-some c = groups_have_atoms

pub returns-clause-bounded : goal.returns-clause-bounded
returns-clause-bounded c = atoms_take_bytes
