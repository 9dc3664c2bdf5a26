use Rattle.std.proofs.Common.{rules, arith}
use Rattle.ctl_store.specs.Inside.HeldPieces.{IsPiece}
use Rattle.ctl_store.proofs.PiecesLemmas.{spot_within, length_read, piece_read, joined_remove}
use Rattle.ctl_store.proofs.PlaceLemmas.{all_set}
use Rattle.ctl_store.proofs.pieces.remove_within.Goals as goal

pub index_mut-requires : goal.index_mut-requires
index_mut-requires g c = omega (arith, spot_within c.args.pieces.now.items c.args.spot.piece c.args.spot.at c.requires.spot)

pub remove-requires : goal.remove-requires
remove-requires g c =
    let ps = c.args.pieces.now.items in
    let within = spot_within ps c.args.spot.piece c.args.spot.at c.requires.spot in
    omega (arith, c.requires.spot, length_read ps c.args.spot.piece c.index_mut.result.now within c.index_mut.ensures.value)

pub returns-clause-kept : goal.returns-clause-kept
returns-clause-kept g c =
    let ps = c.args.pieces.now.items in
    let within = spot_within ps c.args.spot.piece c.args.spot.at c.requires.spot in
    let p : IsPiece c.index_mut.result.now = piece_read ps c.args.spot.piece c.index_mut.result.now c.requires.pieces within c.index_mut.ensures.value in
    let n = length_read ps c.args.spot.piece c.index_mut.result.now within c.index_mut.ensures.value in
    record {
      pieces = all_set IsPiece ps c.args.spot.piece c.remove.new.self c.requires.pieces (record {
        some = omega (arith, c.remove.ensures.len, n, c.requires.others);
        few = omega (arith, c.remove.ensures.len, p.few);
        room = omega (arith, c.remove.ensures.capacity, p.room);
      });
      len = search rules;
      capacity = search rules;
    }

pub returns-clause-items : goal.returns-clause-items
returns-clause-items g c =
    let ps = c.args.pieces.now.items in
    let p = c.index_mut.result.now in
    let within = spot_within ps c.args.spot.piece c.args.spot.at c.requires.spot in
    let n = length_read ps c.args.spot.piece p within c.index_mut.ensures.value in
    joined_remove ps c.args.spot.piece p c.remove.new.self c.args.spot.at within c.index_mut.ensures.value (omega (arith, c.requires.spot, n)) c.remove.ensures.items
