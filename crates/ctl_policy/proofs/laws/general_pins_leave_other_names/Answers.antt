use Rattle.ctl_policy.proofs.RestLemmas.{general_pin_others, general_unpin_others}
use Rattle.ctl_policy.proofs.laws.general_pins_leave_other_names.Goals as goal

pub returns-clause-pin : goal.returns-clause-pin
returns-clause-pin c = general_pin_others c.settings_by_package.ensures.set

pub returns-clause-unpin : goal.returns-clause-unpin
returns-clause-unpin c = general_unpin_others c.settings_by_package.ensures.taken
