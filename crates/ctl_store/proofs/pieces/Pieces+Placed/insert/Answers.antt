use Rattle.std.proofs.Common.{◌≡◌, ◌∙◌, ◌/◌, ◌<◌, List, length, ap, sym, subst, arith}
use Rattle.std.specs.List.{insert}
use Rattle.ctl_store.specs.declared.fronts.Placed.{Placed}
use Rattle.ctl_store.specs.Inside.HeldPieces.{InPieces, joined, length_at, room_of_last, place_of_spot, HasRoomForOne, IsSpot, IsSpotOrEnd, IsPiece, inserted_at}
use Rattle.ctl_store.proofs.PiecesLemmas.{length_read, room_read, piece_read, length_of_all, last_of_all, room_of_last_push, split_stands, split_fits}
use Rattle.ctl_store.proofs.pieces.Pieces+Placed.insert.Goals as goal

pub push-requires : goal.push-requires
push-requires c = omega (arith, c.requires.room, last_of_all c.args.self.now.ready)

pub insert_within-requires-clause-few : goal.insert_within-requires-clause-few
insert_within-requires-clause-few c =
    let ps = c.self.inside.pieces.items in
    let within : c.args.spot.piece < length ps = omega arith in
    omega (arith, c.free_in.ensures, length_read ps c.args.spot.piece c.index.result.now within c.index.ensures, room_read ps c.args.spot.piece c.index.result.now within c.index.ensures)

pub split-requires-clause-some : goal.split-requires-clause-some
split-requires-clause-some c =
    let ps = c.self.inside.pieces.items in
    let within : c.args.spot.piece < length ps = omega arith in
    let n = length_read ps c.args.spot.piece c.index.result.now within c.index.ensures in
    let r = room_read ps c.args.spot.piece c.index.result.now within c.index.ensures in
    let m = length_read ps c.args.spot.piece c.index-else-free_in-gt0.result.now within c.index-else-free_in-gt0.ensures in
    let was : IsPiece c.index.result.now = piece_read ps c.args.spot.piece c.index.result.now c.self.invariant.pieces within c.index.ensures in
    omega (arith, c.free_in.ensures, n, r, m, was.room, was.few)

pub split-requires-clause-fits : goal.split-requires-clause-fits
split-requires-clause-fits c =
    let ps = c.self.inside.pieces.items in
    let within : c.args.spot.piece < length ps = omega arith in
    let n = length_read ps c.args.spot.piece c.index.result.now within c.index.ensures in
    let was : IsPiece c.index.result.now = piece_read ps c.args.spot.piece c.index.result.now c.self.invariant.pieces within c.index.ensures in
    let room = subst HasRoomForOne (sym c.self.view_is) c.requires.room in
    let last = ap room_of_last c.take_ready.ensures.items ∙ room_of_last_push c.take_ready.new.ready.items c.take_ready.result in
    omega (arith, room, last, length_of_all ps c.args.spot.piece, n, was.few)

-- in the parts of a piece that was split there is room
pub insert_within-requires-else-free_in-gt0-clause-few
    : goal.insert_within-requires-else-free_in-gt0-clause-few
insert_within-requires-else-free_in-gt0-clause-few c =
    let ps = c.self.inside.pieces.items in
    let within : c.args.spot.piece < length ps = omega arith in
    let there : IsSpot ps c.args.spot = (subst (λ (p : InPieces Placed). IsSpotOrEnd p.pieces c.args.spot) (sym c.self.view_is) c.requires.spot).item within in
    let n = length_read ps c.args.spot.piece c.index.result.now within c.index.ensures in
    let r = room_read ps c.args.spot.piece c.index.result.now within c.index.ensures in
    let m = length_read ps c.args.spot.piece c.index-else-free_in-gt0.result.now within c.index-else-free_in-gt0.ensures in
    let was : IsPiece c.index.result.now = piece_read ps c.args.spot.piece c.index.result.now c.self.invariant.pieces within c.index.ensures in
    let parts = split_fits ps c.split.new.pieces.items c.args.spot c.spot_after_split.result (c.len-half.result / 2) c.spot_after_split.ensures.lower c.spot_after_split.ensures.upper
    (length_at ps c.args.spot.piece) (omega (arith, there)) (omega (arith, c.free_in.ensures, n, r, m, was.room, was.few)) (omega (arith, c.free_in.ensures, n, r, m, was.room, was.few))
    c.split.ensures.lower_length c.split.ensures.upper_length (omega (arith, c.split.ensures.lower_room, c.free_in.ensures, n, r, was.room)) c.split.ensures.upper_room in
    parts.1

pub returns-else-free_in-gt0 : goal.returns-else-free_in-gt0
returns-else-free_in-gt0 c =
    let ps = c.self.inside.pieces.items in
    let qs = c.split.new.pieces.items in
    let at : place_of_spot qs c.spot_after_split.result ≡ place_of_spot ps c.args.spot =
    split_stands ps qs c.args.spot c.spot_after_split.result (c.len-half.result / 2) c.spot_after_split.ensures.lower c.spot_after_split.ensures.upper c.split.ensures.lower c.split.ensures.upper
    in
    c.insert_within-else-free_in-gt0.ensures.items
    ∙ ap (λ (l : List Placed). insert l (place_of_spot qs c.spot_after_split.result) c.args.item) c.split.ensures.items
    ∙ ap (λ n. insert (joined ps) n c.args.item) at
    ∙ ap (λ (p : InPieces Placed). inserted_at p.pieces c.args.spot c.args.item) c.self.view_is
