use Rattle.std.proofs.Common.{◌-◌, length, sym, arith}
use Rattle.std.proofs.lemmas.Option.{slice_get_within}
use Rattle.ctl_store.proofs.PiecesLemmas.{got_last}
use Rattle.ctl_store.proofs.pieces.room_of_last.Goals as goal

pub returns-in-Some : goal.returns-in-Some
returns-in-Some g c =
    let ps = c.args.ready.now in
    let within = slice_get_within ps (length ps - 1) c.in-Some.piece.now (sym c.in-Some.ensures.value) in
    omega (arith, got_last ps (length ps - 1) c.in-Some.piece.now (omega (arith, within)) c.in-Some.ensures.value)
