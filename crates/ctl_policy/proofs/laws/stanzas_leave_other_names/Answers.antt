use Rattle.ctl_policy.proofs.TouchLemmas.{stanza_others}
use Rattle.ctl_policy.proofs.laws.stanzas_leave_other_names.Goals as goal

pub returns : goal.returns
returns c = stanza_others
