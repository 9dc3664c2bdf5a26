use Rattle.std.proofs.Common.{◌≡◌, take}
use Rattle.ctl_filter.specs.Inside.CaseBits.{with_case_bits}
use Rattle.ctl_filter.proofs.pattern_finder.write_with_case_bits.Given as goal

-- so far the room has the bytes of the text with the bit
abbrev pub invariant-loop-i : goal.invariant-loop-i
invariant-loop-i l = take l.i l.room ≡ with_case_bits (take l.i l.text)
