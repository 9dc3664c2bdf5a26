use Rattle.std.proofs.Common.{◌≡◌, ◌+◌, ◌<◌, length}
use Rattle.ctl_store.specs.Inside.HeldPieces.{most_in_piece, joined, ArePieces}
use Rattle.ctl_store.proofs.pieces.room_for.Given as goal

abbrev pub invariant-pieces : goal.invariant-pieces
invariant-pieces g l = record {
  pieces : ArePieces l.left;
  few : l.items < most_in_piece;
  all : l.items + length (joined l.left) ≡ length (joined l.fn.pieces);
}

abbrev pub decreases-pieces : goal.decreases-pieces
decreases-pieces g l = length l.left
