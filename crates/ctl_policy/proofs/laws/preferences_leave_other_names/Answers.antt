use Rattle.ctl_policy.proofs.RestLemmas.{pins_others}
use Rattle.ctl_policy.proofs.laws.preferences_leave_other_names.Goals as goal

pub returns : goal.returns
returns c = pins_others
