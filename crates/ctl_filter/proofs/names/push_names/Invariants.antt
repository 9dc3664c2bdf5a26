use Rattle.std.proofs.Common.{◌≡◌, ◌++◌, take, map}
use Rattle.ctl_filter.proofs.names.push_names.Given as goal

abbrev pub invariant-loop-part : goal.invariant-loop-part
invariant-loop-part l = l.names.items ≡ l.initial.names.items ++ map (λ part. part.now) (take l.part-index l.parts)
