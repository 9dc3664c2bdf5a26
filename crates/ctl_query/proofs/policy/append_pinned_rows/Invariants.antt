use Rattle.std.proofs.Common.{◌≡◌, ◌++◌, flat_map}
use Rattle.std.specs.List.{AllByRecursion}
use Rattle.ctl_store.specs.Store.{keyed_of}
use Rattle.ctl_store.specs.Keys.{AreHeld}
use Rattle.ctl_policy.specs.Priority.{world_of}
use Rattle.ctl_query.specs.Policy.{line_if_pinned}
use Rattle.ctl_query.proofs.policy.append_pinned_rows.Given as goal

-- what was written, and the rows that are left, are what there was and all rows
abbrev pub invariant-rows : goal.invariant-rows
invariant-rows l = record {
  held : AllByRecursion (λ row. AreHeld row (keyed_of l.asking).lists) l.row-iterator;
  text : l.out.items ++ flat_map (line_if_pinned (world_of l.asking) l.name) l.row-iterator ≡ l.initial.out.items ++ flat_map (line_if_pinned (world_of l.asking) l.name) l.initial.row-iterator;
}
