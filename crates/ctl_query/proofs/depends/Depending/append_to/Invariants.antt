use Rattle.std.proofs.Common.{◌≡◌, ◌++◌, ◌+◌, ◌≤◌, take, flat_map}
use Rattle.std.specs.List.{sum_by}
use Rattle.ctl_policy.specs.Priority.{world_of}
use Rattle.ctl_query.specs.Texts.{if_known}
use Rattle.ctl_query.specs.Depends.{depends_one, one_pairs}
use Rattle.ctl_query.proofs.depends.Depending.append_to.Given as goal

abbrev pub invariant-loop-name : goal.invariant-loop-name
invariant-loop-name l = record {
  text : l.out.items ≡ l.initial.out.items ++ flat_map (if_known (world_of l.self.asking.now) (depends_one (world_of l.self.asking.now) l.self.options)) (take l.name-index l.names);
  steps : l.steps ≤ l.initial.steps + sum_by (one_pairs (world_of l.self.asking.now) l.self.options) (take l.name-index l.names);
  kept : l.initial.steps ≤ l.steps;
}
