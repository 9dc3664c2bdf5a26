use Rattle.std.proofs.Common.{◌≡◌, ◌++◌, flat_map}
use Rattle.ctl_index.specs.LeadKeys.{lead_key}
use Rattle.ctl_index.proofs.cache.Cache.all_leads.Given as goal

-- the keys so far, and those of the rows of the names that are left, are those of the rows of all names
abbrev pub invariant-names : goal.invariant-names
invariant-names l = l.leads.items ++ flat_map (flat_map lead_key) l.rows-iterator ≡ flat_map (flat_map lead_key) l.initial.rows-iterator
