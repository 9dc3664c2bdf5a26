use Rattle.ctl_policy.proofs.SettingLemmas.{prefs_untouched}
use Rattle.ctl_policy.proofs.edit_laws.edits_of_preferences.Goals as goal

pub returns : goal.returns
returns c = prefs_untouched
