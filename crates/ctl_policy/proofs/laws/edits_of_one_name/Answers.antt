use Rattle.ctl_policy.specs.Priority.{world_of}
use Rattle.ctl_policy.proofs.laws.edits_of_one_name.Goals as goal

pub returns-clause-mark : goal.returns-clause-mark
returns-clause-mark c = λ old name mark. c.marks_leave_other_names.ensures.mark (world_of old) name mark

pub returns-clause-unmark : goal.returns-clause-unmark
returns-clause-unmark c = λ old name. c.marks_leave_other_names.ensures.unmark (world_of old) name

pub returns-clause-pin : goal.returns-clause-pin
returns-clause-pin c = λ old name s p is. c.specific_pins_leave_other_names.ensures.pin (world_of old) name s p is

pub returns-clause-unpin : goal.returns-clause-unpin
returns-clause-unpin c = λ old name s is. c.specific_pins_leave_other_names.ensures.unpin (world_of old) name s is
