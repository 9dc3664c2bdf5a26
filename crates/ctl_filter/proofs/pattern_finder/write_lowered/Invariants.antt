use Rattle.std.proofs.Common.{◌≡◌, take}
use Rattle.std.specs.Str.{str_to_ascii_lowercase}
use Rattle.ctl_filter.proofs.pattern_finder.write_lowered.Given as goal

-- so far the room has the letters of the text as small ones
abbrev pub invariant-loop-i : goal.invariant-loop-i
invariant-loop-i l = take l.i l.room ≡ str_to_ascii_lowercase (take l.i l.text)
