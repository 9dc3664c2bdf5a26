use Rattle.std.proofs.Common.{◌≡◌, length}
use Rattle.std.specs.List.{filter_map}
use Rattle.ctl_policy.specs.Rows.{lead_of}
use Rattle.ctl_index.proofs.cache.candidates.next_lead.Given as goal

abbrev pub invariant-rows : goal.invariant-rows
invariant-rows l = filter_map lead_of l.rows ≡ filter_map lead_of l.fn.rows

abbrev pub decreases-rows : goal.decreases-rows
decreases-rows l = length l.rows
