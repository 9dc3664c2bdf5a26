use Rattle.ctl_policy.proofs.KeptLemmas.{kept_put, kept_take}
use Rattle.ctl_policy.proofs.laws.rows_follow_stanzas.Goals as goal

pub returns-clause-put : goal.returns-clause-put
returns-clause-put c = kept_put

pub returns-clause-taken : goal.returns-clause-taken
returns-clause-taken c = kept_take
