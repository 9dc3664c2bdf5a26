use Rattle.std.proofs.Common.{◌≡◌, ◌∙◌, ap, sym, subst, arith}
use Rattle.std.specs.List.{remove}
use Rattle.ctl_store.specs.Inside.HeldPieces.{InPieces, IsSpot, joined, place_of_spot}
use Rattle.ctl_store.proofs.PiecesLemmas.{spot_within, length_read, joined_remove_piece}
use Rattle.ctl_store.proofs.pieces.Pieces.remove.Goals as goal
use Rattle.ctl_store.proofs.pieces.Pieces.remove.Goals.{then-len-gt1, else-len-gt1}

pub index-requires : goal.index-requires
index-requires g c = omega (arith, spot_within c.self.inside.pieces.items c.args.spot.piece c.args.spot.at (subst (λ (p : InPieces _). IsSpot p.pieces c.args.spot) (sym c.self.view_is) c.requires))

pub remove_within-requires-clause-others : goal.remove_within-requires-clause-others
remove_within-requires-clause-others g c =
    let ps = c.self.inside.pieces.items in
    let within = spot_within ps c.args.spot.piece c.args.spot.at (subst (λ (p : InPieces _). IsSpot p.pieces c.args.spot) (sym c.self.view_is) c.requires) in
    omega (arith, length_read ps c.args.spot.piece c.index.result.now within c.index.ensures)

pub join_around-requires-clause-within : goal.join_around-requires-clause-within
join_around-requires-clause-within g c = omega (arith, c.remove_within.ensures.len, spot_within c.self.inside.pieces.items c.args.spot.piece c.args.spot.at (subst (λ (p : InPieces _). IsSpot p.pieces c.args.spot) (sym c.self.view_is) c.requires))

pub remove-requires : goal.remove-requires
remove-requires g c = omega (arith, spot_within c.self.inside.pieces.items c.args.spot.piece c.args.spot.at (subst (λ (p : InPieces _). IsSpot p.pieces c.args.spot) (sym c.self.view_is) c.requires))

pub returns : goal.returns
returns g c =
    let ps = c.self.inside.pieces.items in
    let there : IsSpot ps c.args.spot = subst (λ (p : InPieces _). IsSpot p.pieces c.args.spot) (sym c.self.view_is) c.requires in
    let is : joined c.if-len-gt1.self-inside.pieces.items ≡ remove (joined ps) (place_of_spot ps c.args.spot) =
    elim c.if-len-gt1.branch [
      | then-len-gt1 w ↦ ap (λ i. joined i.pieces.items) w.self-inside-is ∙ w.join_around.ensures.items ∙ w.remove_within.ensures.items
      | else-len-gt1 w ↦
          let within = spot_within ps c.args.spot.piece c.args.spot.at there in
          ap (λ i. joined i.pieces.items) w.self-inside-is ∙ ap joined w.remove.ensures.items
          ∙ joined_remove_piece ps c.args.spot.piece c.args.spot.at there (omega (arith, length_read ps c.args.spot.piece c.index.result.now within c.index.ensures, w.if-len-gt1.false))
    ] in
    ap joined c.shrink_pieces.ensures.items ∙ c.shrink_only.ensures.items ∙ is ∙ ap (λ p. remove (joined p.pieces) (place_of_spot p.pieces c.args.spot)) c.self.view_is
