use Rattle.std.proofs.Common.{◌≡◌, ◌+◌, ◌<◌, ℕ, true, get_or}
use Rattle.std.specs.Ordering.{is_lt}
use Rattle.ctl_index.specs.declared.stanza_numbers.ClausePlace.{ClausePlace}
use Rattle.ctl_index.specs.Inside.ClauseNumbers.{place_cmp}
use Rattle.ctl_index.proofs.stanza_numbers.are_rising.Given as goal

-- the places so far rise
abbrev pub invariant-loop-i : goal.invariant-loop-i
invariant-loop-i l = (k : ℕ) (d : ClausePlace × ℕ) → k + 1 < l.i → is_lt (place_cmp (get_or l.clauses k d).0 (get_or l.clauses (k + 1) d).0) ≡ true
