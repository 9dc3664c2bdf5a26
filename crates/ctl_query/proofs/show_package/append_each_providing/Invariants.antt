use Rattle.std.proofs.Common.{◌≡◌, ◌++◌, take, flat_map}
use Rattle.ctl_policy.specs.Priority.{world_of}
use Rattle.ctl_query.specs.NameSet.{lent_names}
use Rattle.ctl_query.specs.Packages.{of_rows}
use Rattle.ctl_query.specs.ShowPackage.{providing_lines}
use Rattle.ctl_query.proofs.show_package.append_each_providing.Given as goal

-- what was written, are the lines of the packages so far
abbrev pub invariant-loop-asker : goal.invariant-loop-asker
invariant-loop-asker l = l.out.items ≡ l.initial.out.items ++ flat_map (of_rows (world_of l.asking) (providing_lines l.name)) (lent_names (take l.asker-index l.askers))
