use Rattle.std.proofs.Common.{◌≡◌, take}
use Rattle.ctl_filter.specs.Inside.CaseBits.{with_case_bits}
use Rattle.ctl_filter.proofs.pattern_finder.has_case_bits.Given as goal

-- the bytes so far have the bit
abbrev pub invariant-loop-byte : goal.invariant-loop-byte
invariant-loop-byte l = with_case_bits (take l.byte-index l.pattern) ≡ take l.byte-index l.pattern
