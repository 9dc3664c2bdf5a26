use Rattle.ctl_session.proofs.OneOutcomeLemmas.{comes_to_one}
use Rattle.ctl_session.proofs.laws.commands_come_to_one_outcome.Goals as goal

pub returns : goal.returns
returns c = comes_to_one
