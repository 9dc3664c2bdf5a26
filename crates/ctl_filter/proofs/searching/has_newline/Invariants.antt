use Rattle.std.proofs.Common.{◌≡◌, drop}
use Rattle.std.specs.List.{list_any}
use Rattle.ctl_filter.specs.Inside.Searchers.{is_newline}
use Rattle.ctl_filter.proofs.searching.has_newline.Given as goal

-- a newline of the pattern stands behind the bytes so far
abbrev pub invariant-loop-byte : goal.invariant-loop-byte
invariant-loop-byte l = list_any is_newline (drop l.byte-index l.pattern) ≡ list_any is_newline l.pattern
