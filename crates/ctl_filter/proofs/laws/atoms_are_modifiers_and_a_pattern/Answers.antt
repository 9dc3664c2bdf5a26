use Rattle.ctl_filter.proofs.AskingLemmas.{modifiers-spelled, patterns-spelled, atoms-asked}
use Rattle.ctl_filter.proofs.laws.atoms_are_modifiers_and_a_pattern.Goals as goal

pub returns-clause-modifiers : goal.returns-clause-modifiers
returns-clause-modifiers c = modifiers-spelled

pub returns-clause-patterns : goal.returns-clause-patterns
returns-clause-patterns c = patterns-spelled

pub returns-clause-atoms : goal.returns-clause-atoms
returns-clause-atoms c = atoms-asked
