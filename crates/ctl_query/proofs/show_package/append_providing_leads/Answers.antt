use Rattle.std.proofs.Common.{rules}
use Rattle.ctl_policy.specs.Priority.{world_of}
use Rattle.ctl_query.specs.Packages.{rows_of}
use Rattle.ctl_query.specs.ShowPackage.{providing_lines}
use Rattle.ctl_query.proofs.LeadLemmas.{as_told}
use Rattle.ctl_query.proofs.show_package.append_providing_leads.Goals as goal

pub returns : goal.returns
returns c = let world = world_of c.args.asking.now in as_told world (providing_lines c.args.name.now) c.args.out.now.items c.leads.out.items (rows_of world c.args.asker.now) (search rules)
