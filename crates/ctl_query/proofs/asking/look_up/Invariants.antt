use Rattle.std.proofs.Common.{◌≡◌, take}
use Rattle.std.specs.List.{All}
use Rattle.ctl_query.specs.Inside.AskedNames.{IsLookedUp, names_asked}
use Rattle.ctl_query.proofs.asking.look_up.Given as goal

-- the names so far were looked up
abbrev pub invariant-loop-name : goal.invariant-loop-name
invariant-loop-name l = (names_asked l.asked.items ≡ take l.name-index l.names) × All (IsLookedUp l.asking) l.asked.items
