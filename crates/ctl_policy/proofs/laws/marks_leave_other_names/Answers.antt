use Rattle.ctl_policy.proofs.RestLemmas.{mark_others, unmark_others}
use Rattle.ctl_policy.proofs.laws.marks_leave_other_names.Goals as goal

pub returns-clause-mark : goal.returns-clause-mark
returns-clause-mark c = mark_others

pub returns-clause-unmark : goal.returns-clause-unmark
returns-clause-unmark c = unmark_others
