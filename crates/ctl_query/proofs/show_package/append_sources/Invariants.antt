use Rattle.std.proofs.Common.{◌≡◌, ◌++◌, flat_map}
use Rattle.ctl_query.specs.ShowPackage.{source_mark}
use Rattle.ctl_query.proofs.show_package.append_sources.Given as goal

-- what was written, and the sources that are left, are what there was and all sources
abbrev pub invariant-lists : goal.invariant-lists
invariant-lists l = l.out.items ++ flat_map source_mark l.list-iterator ≡ l.initial.out.items ++ flat_map source_mark l.initial.list-iterator
