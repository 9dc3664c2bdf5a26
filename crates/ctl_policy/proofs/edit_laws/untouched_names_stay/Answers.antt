use Rattle.ctl_policy.proofs.NamesLemmas.{untouched_stays}
use Rattle.ctl_policy.proofs.edit_laws.untouched_names_stay.Goals as goal

pub returns : goal.returns
returns c = untouched_stays c.settings_by_package.ensures.set c.settings_by_package.ensures.taken
