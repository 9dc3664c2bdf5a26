use Rattle.std.proofs.Common.{◌≡◌, drop}
use Rattle.ctl_stanza.specs.Fields.{body_named}
use Rattle.ctl_stanza.specs.Inside.HeldFields.{shown_fields}
use Rattle.ctl_stanza.proofs.fields.body_named.Given as goal

abbrev pub invariant-loop-i : goal.invariant-loop-i
invariant-loop-i l = body_named l.name (shown_fields l.text l.fields) ≡ body_named l.name (shown_fields l.text (drop l.i l.fields))
