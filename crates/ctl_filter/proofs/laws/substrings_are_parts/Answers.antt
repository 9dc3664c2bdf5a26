use Rattle.ctl_filter.proofs.SubstringLemmas.{contains-iff}
use Rattle.ctl_filter.proofs.AnyCaseLemmas.{any_case-iff}
use Rattle.ctl_filter.proofs.laws.substrings_are_parts.Goals as goal

pub returns-clause-exact : goal.returns-clause-exact
returns-clause-exact c = contains-iff

pub returns-clause-any_case : goal.returns-clause-any_case
returns-clause-any_case c = any_case-iff
