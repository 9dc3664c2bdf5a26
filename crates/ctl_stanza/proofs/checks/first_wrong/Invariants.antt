use Rattle.std.proofs.Common.{◌≡◌, drop, false}
use Rattle.ctl_stanza.specs.Faults.{first_wrong}
use Rattle.ctl_stanza.specs.Inside.HeldFields.{shown_fields}
use Rattle.ctl_stanza.proofs.checks.first_wrong.Given as goal

abbrev pub invariant-loop-i : goal.invariant-loop-i
invariant-loop-i l = first_wrong false l.first_line (shown_fields l.bytes l.fields) ≡ first_wrong false l.first_line (shown_fields l.bytes (drop l.i l.fields))
