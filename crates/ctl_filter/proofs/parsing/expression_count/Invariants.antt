use Rattle.std.proofs.Common.{◌≡◌, take}
use Rattle.std.specs.List.{count_by}
use Rattle.ctl_filter.specs.Filter.{has_expression}
use Rattle.ctl_filter.specs.Inside.Values.{asked_atom}
use Rattle.ctl_filter.proofs.parsing.expression_count.Given as goal

abbrev pub invariant-loop-atom : goal.invariant-loop-atom
invariant-loop-atom l = l.count ≡ count_by (λ atom. has_expression (asked_atom atom)) (take l.atom-index l.asked)
