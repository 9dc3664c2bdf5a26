use Rattle.ctl_policy.proofs.NamesLemmas.{plan_accepted}
use Rattle.ctl_policy.proofs.edit_laws.plans_are_accepted.Goals as goal

pub returns : goal.returns
returns c = plan_accepted
