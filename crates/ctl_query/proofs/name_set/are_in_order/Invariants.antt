use Rattle.std.proofs.Common.{take}
use Rattle.std.specs.Cmp.Lexicographic.{slice_cmp}
use Rattle.std.specs.List.Sorted.{IsStrictlySortedBy}
use Rattle.std.specs.Ordering.{nat_cmp}
use Rattle.ctl_query.specs.NameSet.{lent_names}
use Rattle.ctl_query.proofs.name_set.are_in_order.Given as goal

-- the names so far rise
abbrev pub invariant-loop-place : goal.invariant-loop-place
invariant-loop-place l = IsStrictlySortedBy (slice_cmp nat_cmp) (lent_names (take l.place l.names))
