use Rattle.std.proofs.Common.{◌≡◌, ◌++◌, take}
use Rattle.ctl_policy.specs.Priority.{world_of}
use Rattle.ctl_query.specs.Inside.AskedNames.{names_asked}
use Rattle.ctl_query.specs.ShowPackage.{show_package_text}
use Rattle.ctl_query.proofs.show_package.append_each.Given as goal

-- what was written, are the answers on the names so far
abbrev pub invariant-loop-at : goal.invariant-loop-at
invariant-loop-at l = l.out.items ≡ l.initial.out.items ++ show_package_text (world_of l.asking) (names_asked (take l.at l.asked))
