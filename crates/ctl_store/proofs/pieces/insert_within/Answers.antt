use Rattle.std.proofs.Common.{◌<◌, length, arith}
use Rattle.ctl_store.specs.Inside.HeldPieces.{IsPiece}
use Rattle.ctl_store.proofs.PiecesLemmas.{length_read, room_read, piece_read, piece_set, joined_insert}
use Rattle.ctl_store.proofs.PlaceLemmas.{all_set}
use Rattle.ctl_store.proofs.pieces.insert_within.Goals as goal

pub insert_in-requires-clause-within : goal.insert_in-requires-clause-within
insert_in-requires-clause-within g c =
    let within : c.args.spot.piece < length c.args.pieces.now.items = omega arith in
    omega (arith, length_read c.args.pieces.now.items c.args.spot.piece c.index_mut.result.now within c.index_mut.ensures.value)

pub insert_in-requires-clause-room : goal.insert_in-requires-clause-room
insert_in-requires-clause-room g c =
    let within : c.args.spot.piece < length c.args.pieces.now.items = omega arith in
    let n = length_read c.args.pieces.now.items c.args.spot.piece c.index_mut.result.now within c.index_mut.ensures.value in
    omega (arith, n, room_read c.args.pieces.now.items c.args.spot.piece c.index_mut.result.now within c.index_mut.ensures.value, c.requires.few)

pub returns-clause-pieces : goal.returns-clause-pieces
returns-clause-pieces g c =
    let within : c.args.spot.piece < length c.args.pieces.now.items = omega arith in
    let p : IsPiece c.index_mut.result.now = piece_read c.args.pieces.now.items c.args.spot.piece c.index_mut.result.now c.requires.pieces within c.index_mut.ensures.value in
    let n = length_read c.args.pieces.now.items c.args.spot.piece c.index_mut.result.now within c.index_mut.ensures.value in
    all_set IsPiece c.args.pieces.now.items c.args.spot.piece c.insert_in.new.piece c.requires.pieces (record {
      some = omega (arith, c.insert_in.ensures.len);
      few = omega (arith, c.insert_in.ensures.len, n, room_read c.args.pieces.now.items c.args.spot.piece c.index_mut.result.now within c.index_mut.ensures.value, c.requires.few);
      room = omega (arith, c.insert_in.ensures.capacity, p.room);
    })

pub returns-clause-items : goal.returns-clause-items
returns-clause-items g c =
    let within : c.args.spot.piece < length c.args.pieces.now.items = omega arith in
    let n = length_read c.args.pieces.now.items c.args.spot.piece c.index_mut.result.now within c.index_mut.ensures.value in
    joined_insert c.args.pieces.now.items c.args.spot.piece c.index_mut.result.now c.insert_in.new.piece c.args.spot.at c.args.item within c.index_mut.ensures.value (omega (arith, n)) c.insert_in.ensures.items

pub returns-clause-length : goal.returns-clause-length
returns-clause-length g c =
    let within : c.args.spot.piece < length c.args.pieces.now.items = omega arith in
    let n = length_read c.args.pieces.now.items c.args.spot.piece c.index_mut.result.now within c.index_mut.ensures.value in
    omega (arith, n, (piece_set c.args.pieces.now.items c.args.spot.piece c.insert_in.new.piece within).0, c.insert_in.ensures.len)

pub returns-clause-room : goal.returns-clause-room
returns-clause-room g c =
    let within : c.args.spot.piece < length c.args.pieces.now.items = omega arith in
    let r = room_read c.args.pieces.now.items c.args.spot.piece c.index_mut.result.now within c.index_mut.ensures.value in
    omega (arith, r, (piece_set c.args.pieces.now.items c.args.spot.piece c.insert_in.new.piece within).1, c.insert_in.ensures.capacity)
