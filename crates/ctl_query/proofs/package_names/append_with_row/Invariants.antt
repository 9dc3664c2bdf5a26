use Rattle.std.proofs.Common.{◌≡◌, ◌++◌, filter, flat_map}
use Rattle.ctl_policy.specs.Priority.{world_of}
use Rattle.ctl_query.specs.PackageNames.{name_line}
use Rattle.ctl_query.specs.Packages.{has_row}
use Rattle.ctl_query.proofs.package_names.append_with_row.Given as goal

abbrev pub invariant-names : goal.invariant-names
invariant-names l = l.out.items ++ flat_map name_line (filter (has_row (world_of l.asking)) l.name-iterator) ≡ l.initial.out.items ++ flat_map name_line (filter (has_row (world_of l.asking)) l.initial.name-iterator)
