use Rattle.std.proofs.Common.{◌≡◌, flat_map, length}
use Rattle.ctl_policy.specs.Priority.{world_of}
use Rattle.ctl_query.specs.Leads.{keyed_lead}
use Rattle.ctl_query.proofs.leads.next_lead.Given as goal

-- the leads of the rows that are left are those of all
abbrev pub invariant-rows : goal.invariant-rows
invariant-rows l = flat_map (keyed_lead (world_of l.store)) l.rows ≡ flat_map (keyed_lead (world_of l.store)) l.initial.rows

abbrev pub decreases-rows : goal.decreases-rows
decreases-rows l = length l.rows
