use Rattle.ctl_policy.proofs.TouchedLemmas.{put_untouched, remove_untouched}
use Rattle.ctl_policy.proofs.edit_laws.edits_of_stanzas.Goals as goal

pub returns-clause-put : goal.returns-clause-put
returns-clause-put c = put_untouched

pub returns-clause-remove : goal.returns-clause-remove
returns-clause-remove c = remove_untouched
