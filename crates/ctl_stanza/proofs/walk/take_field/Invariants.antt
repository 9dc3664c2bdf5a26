use Rattle.std.proofs.Common.{◌≡◌, ◌≤◌, length}
use Rattle.ctl_stanza.specs.Inside.HeldFields.{IsWalk, bodies_in}
use Rattle.ctl_stanza.proofs.walk.take_field.Given as goal

abbrev pub invariant-lines : goal.invariant-lines
invariant-lines l = record {
  walk : IsWalk l.left l.others;
  told : bodies_in l.text ≡ bodies_in l.left;
  shorter : length l.left ≤ length l.text;
}

abbrev pub decreases-lines : goal.decreases-lines
decreases-lines l = length l.left
