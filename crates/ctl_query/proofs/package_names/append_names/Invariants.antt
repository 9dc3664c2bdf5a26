use Rattle.std.proofs.Common.{◌≡◌, ◌++◌, true, flat_map, filter}
use Rattle.std.specs.Cmp.Lexicographic.{slice_cmp}
use Rattle.std.specs.List.{AllByRecursion}
use Rattle.std.specs.List.Sorted.{IsStrictlySortedBy}
use Rattle.std.specs.Ordering.{nat_cmp, is_le}
use Rattle.ctl_query.specs.PackageNames.{begins_with, name_line}
use Rattle.ctl_query.proofs.package_names.append_names.Given as goal

-- what was written, and the names that are left, are what there was and all names
abbrev pub invariant-names : goal.invariant-names
invariant-names l = record {
  order : IsStrictlySortedBy (slice_cmp nat_cmp) l.name-iterator;
  from : AllByRecursion (λ name. is_le (slice_cmp nat_cmp l.prefix name) ≡ true) l.name-iterator;
  text : l.out.items ++ flat_map name_line (filter (begins_with l.prefix) l.name-iterator) ≡ l.initial.out.items ++ flat_map name_line (filter (begins_with l.prefix) l.initial.name-iterator);
}
