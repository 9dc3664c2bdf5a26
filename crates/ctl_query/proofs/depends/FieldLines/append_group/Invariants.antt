use Rattle.std.proofs.Common.{◌≡◌, ◌++◌, ◌+◌, ◌≤◌, length}
use Rattle.ctl_policy.specs.Priority.{world_of}
use Rattle.ctl_query.specs.Depends.{group_lines, group_pairs}
use Rattle.ctl_query.specs.Inside.KeptLines.{AreWritten}
use Rattle.ctl_query.proofs.depends.FieldLines.append_group.Given as goal

-- what was written, and the lines of the atoms that are left, are what there was and the lines of all; and so it is with the tests
abbrev pub invariant-atoms : goal.invariant-atoms
invariant-atoms l = record {
  left : l.left ≡ length l.atom-iterator;
  depending : l.self.depending ≡ l.initial.self.depending;
  field : l.self.field ≡ l.initial.self.field;
  text : l.out.items ++ group_lines (world_of l.initial.self.depending.now.asking.now) l.initial.self.depending.now.options.installed l.initial.self.field l.atom-iterator ≡ l.initial.out.items ++ group_lines (world_of l.initial.self.depending.now.asking.now) l.initial.self.depending.now.options.installed l.initial.self.field l.initial.atom-iterator;
  written : AreWritten l.self l.out.items;
  steps : l.steps + group_pairs (world_of l.initial.self.depending.now.asking.now) l.atom-iterator ≤ l.initial.steps + group_pairs (world_of l.initial.self.depending.now.asking.now) l.initial.atom-iterator;
  kept : l.initial.steps ≤ l.steps;
}
