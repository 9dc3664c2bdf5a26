use Rattle.ctl_index.proofs.ToldLemmas.{names_rise, names_are}
use Rattle.ctl_index.proofs.laws.known_names_rise.Goals as goal

pub returns-clause-order : goal.returns-clause-order
returns-clause-order c = names_rise

pub returns-clause-members : goal.returns-clause-members
returns-clause-members c = names_are
