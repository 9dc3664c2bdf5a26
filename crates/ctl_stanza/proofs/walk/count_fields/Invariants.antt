use Rattle.std.proofs.Common.{◌≡◌, ◌+◌, ◌≤◌, length}
use Rattle.ctl_stanza.specs.Inside.HeldFields.{IsWalk, bodies_in}
use Rattle.ctl_stanza.proofs.walk.count_fields.Given as goal

-- the fields so far and those that are left are all, and each took a byte at least
abbrev pub invariant-fields : goal.invariant-fields
invariant-fields l = record {
  walk : IsWalk l.left l.others;
  told : l.count + length (bodies_in l.left) ≡ length (bodies_in l.text);
  room : l.count + length l.left ≤ length l.text;
}

abbrev pub decreases-fields : goal.decreases-fields
decreases-fields l = length l.left
