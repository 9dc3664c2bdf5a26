use Rattle.std.proofs.Common.{◌≡◌, take}
use Rattle.ctl_query.specs.LeadTable.{lent_leads, numbered_from}
use Rattle.ctl_query.proofs.lead_table.numbered.Given as goal

abbrev pub invariant-loop-place : goal.invariant-loop-place
invariant-loop-place l = l.places.items ≡ numbered_from 0 (lent_leads (take l.place l.leads))
