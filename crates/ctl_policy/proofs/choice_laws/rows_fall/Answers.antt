use Rattle.ctl_policy.proofs.BestLemmas.{fall, there}
use Rattle.ctl_policy.proofs.choice_laws.rows_fall.Goals as goal

pub returns-clause-fall : goal.returns-clause-fall
returns-clause-fall c = fall

pub returns-clause-there : goal.returns-clause-there
returns-clause-there c = there
