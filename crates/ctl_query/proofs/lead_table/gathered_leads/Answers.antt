use Rattle.std.proofs.Common.{rules}
use Rattle.ctl_policy.specs.Priority.{world_of}
use Rattle.ctl_query.proofs.LeadLemmas.{leads_of_known}
use Rattle.ctl_query.proofs.lead_table.gathered_leads.Goals as goal

pub returns : goal.returns
returns c =
    let known = leads_of_known (world_of c.args.asking.now) in
    search (rules, known)
