use Rattle.std.proofs.Common.{◌≡◌, ◌++◌, drop}
use Rattle.ctl_stanza.specs.Lines.{lent_lines}
use Rattle.ctl_stanza.specs.Fields.{continued}
use Rattle.ctl_stanza.proofs.fields.append_body.Given as goal

abbrev pub invariant-loop-i : goal.invariant-loop-i
invariant-loop-i l = l.bytes.items ++ continued (drop l.i (lent_lines l.lines)) ≡ l.fn.bytes.items ++ (l.value ++ continued (lent_lines l.lines))
