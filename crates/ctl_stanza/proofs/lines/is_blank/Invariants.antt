use Rattle.std.proofs.Common.{◌≡◌, drop}
use Rattle.std.specs.List.{list_all}
use Rattle.ctl_stanza.specs.Lines.{is_blank_byte}
use Rattle.ctl_stanza.proofs.lines.is_blank.Given as goal

-- the bytes so far are blanks
abbrev pub invariant-loop-byte : goal.invariant-loop-byte
invariant-loop-byte l = list_all is_blank_byte (drop l.byte-index l.line) ≡ list_all is_blank_byte l.line
