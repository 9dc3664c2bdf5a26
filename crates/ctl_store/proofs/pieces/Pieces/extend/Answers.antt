use Rattle.std.proofs.Common.{◌≡◌, ◌∙◌, ◌∷◌, ◌++◌, [], length, ap, sym, arith, append_assoc}
use Rattle.std.proofs.lemmas.List.{append-nil, nil_from_length}
use Rattle.ctl_store.specs.Inside.HeldPieces.{joined}
use Rattle.ctl_store.proofs.pieces.Pieces.extend.Goals as goal

pub loop-item-init : goal.loop-item-init
loop-item-init g c = record {
  whole = ap (λ l. joined c.args.self.now.pieces ++ l) c.into_iter-item-iterator.ensures.into_iter_gives.0;
  room = omega (arith, c.requires, ap length c.into_iter-item-iterator.ensures.into_iter_gives.0);
}

pub push-requires : goal.push-requires
push-requires g c = omega (arith, c.loop-item.invariant.room, ap length c.in-Some.ensures.steps.0)

pub loop-item-preserved : goal.loop-item-preserved
loop-item-preserved g c = record {
  whole =
      ap (λ l. l ++ c.next.new.self.rest.items) c.push.ensures.items
      ∙ append_assoc (joined c.loop-item.self.pieces) (c.in-Some.item ∷ []) c.next.new.self.rest.items
      ∙ ap (λ l. joined c.loop-item.self.pieces ++ l) (sym c.in-Some.ensures.steps.0)
      ∙ c.loop-item.invariant.whole;
  room = omega (arith, c.push.ensures.room, c.loop-item.invariant.room, ap length c.in-Some.ensures.steps.0);
}

pub returns : goal.returns
returns g c =
    let none : c.loop-item.item-iterator.rest.items ≡ [] = nil_from_length c.loop-item.item-iterator.rest.items (omega (arith, c.in-None.ensures.steps.0)) in
    sym (append-nil (joined c.loop-item.self.pieces))
    ∙ ap (λ l. joined c.loop-item.self.pieces ++ l) (sym none)
    ∙ c.loop-item.invariant.whole
