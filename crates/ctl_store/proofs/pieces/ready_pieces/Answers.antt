use Rattle.std.proofs.Common.{rules, ◌≤◌, ◌∷◌, [], ap, sym, subst, arith}
use Rattle.ctl_store.specs.Inside.HeldPieces.{room_in, room_of_all, AreReady, IsReadyPiece}
use Rattle.ctl_store.proofs.PlaceLemmas.{all_append}
use Rattle.ctl_store.proofs.PiecesLemmas.{room_of_all_push}
use Rattle.ctl_store.proofs.pieces.ready_pieces.Goals as goal

pub loop-room-preserved : goal.loop-room-preserved
loop-room-preserved g c =
    let ready = c.loop-room.ready.items in
    let piece = c.in_ok-with_capacity.field-0 in
    let fits : c.if-left-eq0.more ≤ room_in piece = search rules in
    let empty : IsReadyPiece piece = search rules in
    record {
      ready = subst AreReady (sym c.in_ok-push.ensures.items) (all_append IsReadyPiece ready (piece ∷ []) c.loop-room.invariant.ready (empty, tt));
      room = omega (arith, c.loop-room.invariant.room, fits, c.saturating_add-room.ensures, ap room_of_all c.in_ok-push.ensures.items, room_of_all_push ready piece);
    }
