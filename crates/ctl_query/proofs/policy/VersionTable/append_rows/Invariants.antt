use Rattle.std.proofs.Common.{◌≡◌, ◌++◌, flat_map}
use Rattle.std.specs.List.{AllByRecursion}
use Rattle.ctl_store.specs.Store.{keyed_of}
use Rattle.ctl_store.specs.Keys.{AreHeld, AreRising}
use Rattle.ctl_policy.specs.Priority.{world_of}
use Rattle.ctl_query.specs.Policy.{row_lines}
use Rattle.ctl_query.proofs.policy.VersionTable.append_rows.Given as goal

-- what was written, and the rows that are left, are what there was and all rows
abbrev pub invariant-rows : goal.invariant-rows
invariant-rows l = record {
  held : AllByRecursion (λ row. AreHeld row (keyed_of l.self.sources.now).lists) l.row-iterator;
  rising : AllByRecursion AreRising l.row-iterator;
  text : l.out.items ++ flat_map (row_lines (world_of l.self.sources.now) l.self.installed l.self.name.now) l.row-iterator ≡ l.initial.out.items ++ flat_map (row_lines (world_of l.self.sources.now) l.self.installed l.self.name.now) l.initial.row-iterator;
}
