use Rattle.std.proofs.Common.{◌≡◌, ◌++◌, flat_map}
use Rattle.ctl_policy.specs.Priority.{world_of}
use Rattle.ctl_query.specs.Leads.{keyed_lead}
use Rattle.ctl_query.specs.LeadTable.{lent_leads}
use Rattle.ctl_query.proofs.lead_table.gathered_leads.Given as goal

-- the leads so far, and those of the rows of the names that are left, are those of the rows of all names
abbrev pub invariant-names : goal.invariant-names
invariant-names l = lent_leads l.leads.items ++ flat_map (flat_map (keyed_lead (world_of l.asking))) l.rows-iterator ≡ flat_map (flat_map (keyed_lead (world_of l.asking))) l.initial.rows-iterator

-- the leads so far, and those that are left of the rows of a name, are those before and those of these rows
abbrev pub invariant-leads : goal.invariant-leads
invariant-leads l = lent_leads l.leads.items ++ l.lead-iterator ≡ lent_leads l.initial.leads.items ++ l.initial.lead-iterator
