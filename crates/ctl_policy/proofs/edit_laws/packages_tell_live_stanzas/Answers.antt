use Rattle.ctl_policy.proofs.PackageLemmas.{none_under, none_held}
use Rattle.ctl_policy.proofs.edit_laws.packages_tell_live_stanzas.Goals as goal

pub returns-clause-keys : goal.returns-clause-keys
returns-clause-keys c = none_under

pub returns-clause-list : goal.returns-clause-list
returns-clause-list c = none_held
