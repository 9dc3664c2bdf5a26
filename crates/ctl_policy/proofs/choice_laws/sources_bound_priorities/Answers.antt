use Rattle.ctl_policy.proofs.BestLemmas.{sources_bound}
use Rattle.ctl_policy.proofs.choice_laws.sources_bound_priorities.Goals as goal

pub returns : goal.returns
returns c = sources_bound
