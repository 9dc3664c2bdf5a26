use Rattle.std.proofs.Common.{◌≡◌, ℕ, ◌<◌, true, get_or}
use Rattle.ctl_filter.specs.Grep.{is_in_line}
use Rattle.ctl_filter.proofs.printing.first_line_len.Given as goal

abbrev pub invariant-loop-i : goal.invariant-loop-i
invariant-loop-i l = (k : ℕ) → k < l.i → is_in_line (get_or l.body k 0) ≡ true
