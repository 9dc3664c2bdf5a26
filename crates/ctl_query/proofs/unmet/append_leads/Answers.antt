use Rattle.std.proofs.Common.{rules}
use Rattle.ctl_policy.specs.Priority.{world_of}
use Rattle.ctl_query.specs.Packages.{rows_of}
use Rattle.ctl_query.specs.Unmet.{unmet_lead}
use Rattle.ctl_query.proofs.LeadLemmas.{as_told}
use Rattle.ctl_query.proofs.unmet.append_leads.Goals as goal

pub returns : goal.returns
returns c = let world = world_of c.args.asking.now in as_told world (unmet_lead world c.args.important) c.args.out.now.items c.leads.out.items (rows_of world c.args.name.now) (search rules)
