use Rattle.std.proofs.Common.{◌≡◌, ◌++◌, take, flat_map}
use Rattle.ctl_policy.specs.Priority.{world_of}
use Rattle.ctl_query.specs.NameSet.{lent_names}
use Rattle.ctl_query.specs.Packages.{of_rows}
use Rattle.ctl_query.specs.Unmet.{unmet_lead}
use Rattle.ctl_query.proofs.unmet.append_each.Given as goal

-- what was written, are the lines of the packages so far
abbrev pub invariant-loop-name : goal.invariant-loop-name
invariant-loop-name l = l.out.items ≡ l.initial.out.items ++ flat_map (of_rows (world_of l.asking) (unmet_lead (world_of l.asking) l.important)) (lent_names (take l.name-index l.names))
