use Rattle.std.proofs.Common.{◌≡◌, ◌≤◌, ◌++◌, length}
use Rattle.ctl_store.specs.Inside.HeldPieces.{joined, room_at_end}
use Rattle.ctl_store.proofs.pieces.Pieces.extend.Given as goal

abbrev pub invariant-loop-item : goal.invariant-loop-item
invariant-loop-item g l = record {
  whole : joined l.self.pieces ++ l.item-iterator.rest.items ≡ joined l.fn.self.pieces ++ l.fn.items.items;
  room : length l.item-iterator.rest.items ≤ room_at_end l.self;
}
