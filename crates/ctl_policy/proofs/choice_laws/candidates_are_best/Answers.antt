use Rattle.ctl_policy.proofs.BestLemmas.{candidate_best, candidate_none, candidate_only}
use Rattle.ctl_policy.proofs.choice_laws.candidates_are_best.Goals as goal

pub returns-clause-best : goal.returns-clause-best
returns-clause-best c = candidate_best

pub returns-clause-none : goal.returns-clause-none
returns-clause-none c = candidate_none

pub returns-clause-only : goal.returns-clause-only
returns-clause-only c = candidate_only
