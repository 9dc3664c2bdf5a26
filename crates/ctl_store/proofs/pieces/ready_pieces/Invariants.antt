use Rattle.std.proofs.Common.{◌≤◌, ◌-◌}
use Rattle.ctl_store.specs.Inside.HeldPieces.{AreReady, room_of_all}
use Rattle.ctl_store.proofs.pieces.ready_pieces.Given as goal

abbrev pub invariant-loop-room : goal.invariant-loop-room
invariant-loop-room g l = record {
  ready : AreReady l.ready.items;
  room : l.room ≤ room_of_all l.ready.items;
}

abbrev pub decreases-loop-room : goal.decreases-loop-room
decreases-loop-room g l = l.items - l.room
