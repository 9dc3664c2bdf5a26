use Rattle.ctl_policy.proofs.TouchLemmas.{rows_lead}
use Rattle.ctl_policy.proofs.laws.rows_have_leads.Goals as goal

pub returns : goal.returns
returns c = rows_lead
