use Rattle.ctl_policy.proofs.NamesLemmas.{touched_renewed}
use Rattle.ctl_policy.proofs.edit_laws.touched_names_are_enough.Goals as goal

pub returns : goal.returns
returns c = touched_renewed c.untouched_names_stay.ensures
