use Rattle.std.proofs.Common.{◌≡◌, ◌++◌, ◌+◌, ◌≤◌, take, flat_map}
use Rattle.std.specs.List.{sum_by}
use Rattle.ctl_policy.specs.Priority.{world_of}
use Rattle.ctl_query.specs.Depends.{field_lines, field_pairs}
use Rattle.ctl_query.proofs.depends.Depending.append_lead.Given as goal

abbrev pub invariant-loop-field : goal.invariant-loop-field
invariant-loop-field l = record {
  text : l.out.items ≡ l.initial.out.items ++ flat_map (field_lines (world_of l.self.asking.now) l.self.options.installed l.lead) (take l.field-index l.fields);
  steps : l.steps ≤ l.initial.steps + sum_by (field_pairs (world_of l.self.asking.now) l.lead) (take l.field-index l.fields);
  kept : l.initial.steps ≤ l.steps;
}
