use Rattle.std.proofs.Common.{◌≡◌, take, flat_map}
use Rattle.ctl_policy.specs.Priority.{world_of}
use Rattle.ctl_query.specs.Leads.{keyed_stanza}
use Rattle.ctl_query.specs.LeadTable.{lent_leads}
use Rattle.ctl_query.proofs.lead_table.leads_under.Given as goal

-- the stanzas of the keys so far
abbrev pub invariant-loop-key : goal.invariant-loop-key
invariant-loop-key l = lent_leads l.leads.items ≡ flat_map (keyed_stanza (world_of l.asking)) (take l.key-index l.keys)
