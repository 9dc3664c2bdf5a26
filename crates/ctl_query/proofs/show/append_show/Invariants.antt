use Rattle.std.proofs.Common.{◌≡◌, ◌++◌, take, map, flat_map}
use Rattle.ctl_policy.specs.Priority.{world_of}
use Rattle.ctl_query.specs.Asked.{asked_row}
use Rattle.ctl_query.specs.Show.{show_one}
use Rattle.ctl_query.proofs.show.append_show.Given as goal

abbrev pub invariant-loop-one : goal.invariant-loop-one
invariant-loop-one l = l.out.items ≡ l.initial.out.items ++ flat_map (show_one (world_of l.asking) l.all) (map asked_row (take l.one-index l.asked))
