use Rattle.std.proofs.Common.{◌≡◌, ◌++◌, take, flat_map}
use Rattle.ctl_policy.specs.Priority.{world_of}
use Rattle.ctl_query.specs.Leads.{leads_named}
use Rattle.ctl_query.specs.LeadTable.{lent_leads}
use Rattle.ctl_query.specs.NameSet.{lent_names}
use Rattle.ctl_query.proofs.lead_table.leads_named.Given as goal

-- the leads of the packages so far
abbrev pub invariant-loop-package : goal.invariant-loop-package
invariant-loop-package l = lent_leads l.leads.items ≡ flat_map (leads_named (world_of l.asking)) (lent_names (take l.package-index l.packages))

-- the leads so far, and those that are left of a package, are those before and those of this package
abbrev pub invariant-leads : goal.invariant-leads
invariant-leads l = lent_leads l.leads.items ++ l.lead-iterator ≡ lent_leads l.initial.leads.items ++ l.initial.lead-iterator
