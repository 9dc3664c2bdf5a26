use Rattle.std.proofs.Common.{◌≡◌, ◌++◌, take, flat_map}
use Rattle.ctl_policy.specs.Priority.{world_of}
use Rattle.ctl_query.specs.NameSet.{lent_names}
use Rattle.ctl_query.specs.Policy.{pinned_lines}
use Rattle.ctl_query.proofs.policy.append_each_pinned.Given as goal

abbrev pub invariant-loop-name : goal.invariant-loop-name
invariant-loop-name l = l.out.items ≡ l.initial.out.items ++ flat_map (pinned_lines (world_of l.asking)) (lent_names (take l.name-index l.names))
