use Rattle.std.proofs.Common.{◌≡◌, ◌++◌, take, flat_map}
use Rattle.ctl_policy.specs.Priority.{world_of}
use Rattle.ctl_query.specs.Texts.{if_known}
use Rattle.ctl_query.specs.ReverseDepends.{reverse_depends_one}
use Rattle.ctl_query.proofs.reverse_depends.append_each_name.Given as goal

abbrev pub invariant-loop-name : goal.invariant-loop-name
invariant-loop-name l = l.out.items ≡ l.initial.out.items ++ flat_map (if_known (world_of l.depending.asking.now) (reverse_depends_one (world_of l.depending.asking.now) l.depending.installed)) (take l.name-index l.names)
