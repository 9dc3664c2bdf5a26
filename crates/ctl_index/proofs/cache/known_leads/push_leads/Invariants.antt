use Rattle.std.proofs.Common.{◌≡◌, ◌++◌, flat_map}
use Rattle.ctl_index.specs.LeadKeys.{lead_key}
use Rattle.ctl_index.proofs.cache.known_leads.push_leads.Given as goal

-- the keys so far, and those of the rows that are left, are those before and those of all the rows
abbrev pub invariant-rows : goal.invariant-rows
invariant-rows l = l.leads.items ++ flat_map lead_key l.row-iterator ≡ l.initial.leads.items ++ flat_map lead_key l.initial.row-iterator
