use Rattle.std.proofs.Common.{◌≡◌, take}
use Rattle.std.specs.Str.{str_to_ascii_lowercase}
use Rattle.ctl_filter.proofs.pattern_finder.is_lowered.Given as goal

-- the bytes so far are small letters in the pattern
abbrev pub invariant-loop-i : goal.invariant-loop-i
invariant-loop-i l = str_to_ascii_lowercase (take l.i l.text) ≡ take l.i l.pattern
