use Rattle.std.proofs.Common.{◌≡◌, ◌++◌, take, map}
use Rattle.ctl_filter.specs.Texts.{joined}
use Rattle.ctl_filter.proofs.text.append_parts.Given as goal

-- what was written are the parts so far
abbrev pub invariant-loop-part : goal.invariant-loop-part
invariant-loop-part l = l.out.items ≡ l.initial.out.items ++ joined (map (λ part. part.now) (take l.part-index l.parts))
