use Rattle.ctl_policy.specs.Priority.{world_of}
use Rattle.ctl_policy.proofs.TouchLemmas.{no_source}
use Rattle.ctl_policy.proofs.edit_laws.edits_of_general_pins.Goals as goal

pub returns-clause-pin : goal.returns-clause-pin
returns-clause-pin c = λ old list p name rising none. c.general_pins_leave_other_names.ensures.pin (world_of old) list p name (no_source list name (world_of old) rising none)

pub returns-clause-unpin : goal.returns-clause-unpin
returns-clause-unpin c = λ old list name rising none. c.general_pins_leave_other_names.ensures.unpin (world_of old) list name (no_source list name (world_of old) rising none)
