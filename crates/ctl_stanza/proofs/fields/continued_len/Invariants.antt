use Rattle.std.proofs.Common.{◌≡◌, ◌+◌, length, drop}
use Rattle.ctl_stanza.specs.Lines.{lent_lines}
use Rattle.ctl_stanza.specs.Fields.{continued}
use Rattle.ctl_stanza.proofs.fields.continued_len.Given as goal

abbrev pub invariant-loop-i : goal.invariant-loop-i
invariant-loop-i l = l.len + length (continued (drop l.i (lent_lines l.lines))) ≡ length (continued (lent_lines l.lines))
