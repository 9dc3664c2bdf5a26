use Rattle.std.proofs.Common.{◌≡◌, ℕ, ◌<◌, ◌≤◌, true, get_or, length}
use Rattle.ctl_stanza.specs.Lines.{is_blank_byte}
use Rattle.ctl_stanza.proofs.fields.stripped_len.Given as goal

abbrev pub invariant-loop-i : goal.invariant-loop-i
invariant-loop-i l = (k : ℕ) → l.i ≤ k → k < length l.text → is_blank_byte (get_or l.text k 0) ≡ true
