use Rattle.std.proofs.Common.{◌≡◌, ◌++◌, drop}
use Rattle.ctl_stanza.specs.Lines.{text_of_lines, lent_lines}
use Rattle.ctl_stanza.proofs.lines.text_of_lines.Given as goal

abbrev pub invariant-loop-i : goal.invariant-loop-i
invariant-loop-i l = l.text.items ++ text_of_lines (drop l.i (lent_lines l.lines)) ≡ text_of_lines (lent_lines l.lines)
