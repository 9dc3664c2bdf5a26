use Rattle.std.proofs.Common.{◌≡◌, ◌++◌, ◌+◌, ◌≤◌, flat_map}
use Rattle.std.specs.List.{sum_by}
use Rattle.ctl_policy.specs.Priority.{world_of}
use Rattle.ctl_query.specs.Depends.{group_lines, group_pairs}
use Rattle.ctl_query.specs.Inside.KeptLines.{AreWritten}
use Rattle.ctl_query.proofs.depends.FieldLines.append_field.Given as goal

-- what was written, and the lines of the groups that are left, are what there was and the lines of all; and so it is with the tests
abbrev pub invariant-groups : goal.invariant-groups
invariant-groups l = record {
  depending : l.self.depending ≡ l.initial.self.depending;
  field : l.self.field ≡ l.initial.self.field;
  text : l.out.items ++ flat_map (group_lines (world_of l.initial.self.depending.now.asking.now) l.initial.self.depending.now.options.installed l.initial.self.field) l.group-iterator ≡ l.initial.out.items ++ flat_map (group_lines (world_of l.initial.self.depending.now.asking.now) l.initial.self.depending.now.options.installed l.initial.self.field) l.initial.group-iterator;
  written : AreWritten l.self l.out.items;
  steps : l.steps + sum_by (group_pairs (world_of l.initial.self.depending.now.asking.now)) l.group-iterator ≤ l.initial.steps + sum_by (group_pairs (world_of l.initial.self.depending.now.asking.now)) l.initial.group-iterator;
  kept : l.initial.steps ≤ l.steps;
}
