use Rattle.std.proofs.Common.{◌≡◌, length}
use Rattle.ctl_stanza.specs.Lines.{lines_of}
use Rattle.ctl_stanza.specs.Fields.{body_named, fields_of_lines}
use Rattle.ctl_stanza.specs.Inside.HeldFields.{IsWalk}
use Rattle.ctl_stanza.proofs.walk.body_in.Given as goal

abbrev pub invariant-lines : goal.invariant-lines
invariant-lines l = record {
  walk : IsWalk l.left l.others;
  told : body_named l.name (fields_of_lines (lines_of l.left)) ≡ body_named l.name (fields_of_lines (lines_of l.text));
}

abbrev pub decreases-lines : goal.decreases-lines
decreases-lines l = length l.left
