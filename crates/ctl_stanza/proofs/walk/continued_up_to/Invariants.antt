use Rattle.std.proofs.Common.{◌≡◌, ◌+◌, length}
use Rattle.ctl_stanza.specs.Lines.{lines_of}
use Rattle.ctl_stanza.specs.Fields.{continued}
use Rattle.ctl_stanza.specs.Inside.HeldFields.{IsText}
use Rattle.ctl_stanza.proofs.walk.continued_up_to.Given as goal

abbrev pub invariant-lines : goal.invariant-lines
invariant-lines l = record {
  is_text : IsText l.left;
  told : l.len + length (continued (lines_of l.left)) ≡ length (continued (lines_of l.text));
}

abbrev pub decreases-lines : goal.decreases-lines
decreases-lines l = length l.left
