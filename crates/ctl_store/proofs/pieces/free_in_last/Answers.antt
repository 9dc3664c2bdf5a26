use Rattle.std.proofs.Common.{◌-◌, length, sym, arith}
use Rattle.std.proofs.lemmas.Option.{slice_get_within, get_or_from_slice_get}
use Rattle.ctl_store.proofs.PiecesLemmas.{length_read, room_read, free_last}
use Rattle.ctl_store.proofs.pieces.free_in_last.Goals as goal

pub returns-in-Some : goal.returns-in-Some
returns-in-Some g c =
    let ps = c.args.pieces.now in
    let p = c.in-Some.last.now in
    let within = slice_get_within ps (length ps - 1) p (sym c.in-Some.ensures.value) in
    let read = sym (get_or_from_slice_get ps (length ps - 1) p p (sym c.in-Some.ensures.value)) in
    omega (arith, c.free_in.ensures, free_last ps (length ps - 1) (omega (arith, within)), length_read ps (length ps - 1) p within read, room_read ps (length ps - 1) p within read)
