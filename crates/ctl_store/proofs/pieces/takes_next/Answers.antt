use Rattle.std.proofs.Common.{◌+◌, ◌<◌, length, arith}
use Rattle.ctl_store.specs.Inside.HeldPieces.{IsPiece}
use Rattle.ctl_store.proofs.PiecesLemmas.{length_read, room_read, piece_read}
use Rattle.ctl_store.proofs.pieces.takes_next.Goals as goal

pub returns-then-len-free_in-clause-room : goal.returns-then-len-free_in-clause-room
returns-then-len-free_in-clause-room g c = λ fits.
    let ps = c.args.pieces.now in
    let behind : c.args.at + 1 < length ps = omega (arith, c.if-at-pieces.false) in
    let next : IsPiece c.index-pieces-at-2.result = piece_read ps (c.args.at + 1) c.index-pieces-at-2.result c.requires.pieces behind c.index-pieces-at-2.is in
    omega (
      arith,
      next.some,
      c.free_in.ensures,
      length_read ps c.args.at c.index-pieces-at.result c.requires.within c.index-pieces-at.is,
      room_read ps c.args.at c.index-pieces-at.result c.requires.within c.index-pieces-at.is,
      length_read ps (c.args.at + 1) c.index-pieces-at-2.result behind c.index-pieces-at-2.is,
    )
