use Rattle.std.proofs.Common.{◌≡◌, ℕ, ◌<◌, true, get_or}
use Rattle.ctl_relation.specs.Inside.ByteClass.{class_has}
use Rattle.ctl_relation.proofs.tokens.run_len.Given as goal

-- the bytes so far are of the class
abbrev pub invariant-loop-i : goal.invariant-loop-i
invariant-loop-i l = (k : ℕ) → k < l.i → class_has l.class (get_or l.text k 0) ≡ true
