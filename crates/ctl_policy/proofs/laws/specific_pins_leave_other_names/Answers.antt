use Rattle.ctl_policy.proofs.RestLemmas.{pin_others, unpin_others}
use Rattle.ctl_policy.proofs.laws.specific_pins_leave_other_names.Goals as goal

pub returns-clause-pin : goal.returns-clause-pin
returns-clause-pin c = pin_others c.settings_by_package.ensures.set

pub returns-clause-unpin : goal.returns-clause-unpin
returns-clause-unpin c = unpin_others c.settings_by_package.ensures.taken
