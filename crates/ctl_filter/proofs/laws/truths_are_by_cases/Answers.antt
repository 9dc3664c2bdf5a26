use Rattle.ctl_filter.proofs.CaseLemmas.{truth-by-cases}
use Rattle.ctl_filter.proofs.laws.truths_are_by_cases.Goals as goal

pub returns : goal.returns
returns c = truth-by-cases
