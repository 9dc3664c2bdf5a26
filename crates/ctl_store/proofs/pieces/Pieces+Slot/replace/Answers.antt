use Rattle.std.proofs.Common.{◌∙◌, ap, arith, set, subst, sym}
use Rattle.ctl_store.specs.Places.{replace_at}
use Rattle.ctl_store.specs.Inside.HeldPieces.{InPieces, IsSpot, joined, place_of_spot}
use Rattle.ctl_store.proofs.PiecesLemmas.{length_read, spot_within}
use Rattle.ctl_store.proofs.PointLemmas.{replace_joined}
use Rattle.ctl_store.proofs.pieces.Pieces+Slot.replace.Goals as goal

pub index_mut-requires : goal.index_mut-requires
index_mut-requires c = omega (arith, spot_within c.self.inside.pieces.items c.args.spot.piece c.args.spot.at (subst (λ (p : InPieces _). IsSpot p.pieces c.args.spot) (sym c.self.view_is) c.requires))

pub index_mut-requires-2 : goal.index_mut-requires-2
index_mut-requires-2 c =
    let spot = c.args.spot in
    let ps = c.self.inside.pieces.items in
    let there : IsSpot ps spot = subst (λ (p : InPieces _). IsSpot p.pieces spot) (sym c.self.view_is) c.requires in
    omega (arith, length_read ps spot.piece c.index_mut.result.now (spot_within ps spot.piece spot.at there) c.index_mut.ensures.value, there)

pub returns : goal.returns
returns c =
    let spot = c.args.spot in
    let ps = c.self.inside.pieces.items in
    let there : IsSpot ps spot = subst (λ (p : InPieces _). IsSpot p.pieces spot) (sym c.self.view_is) c.requires in
    replace_joined ps spot.piece spot.at c.index_mut.result.now c.index_mut-2.result.now _ c.args.stanza.value there c.index_mut.ensures.value c.index_mut-2.ensures.value
    (ap (set c.index_mut.result.now.items spot.at) c.replace.ensures)
    ∙ ap (λ (p : InPieces _). replace_at (joined p.pieces) (place_of_spot p.pieces spot) c.args.stanza.value) c.self.view_is
