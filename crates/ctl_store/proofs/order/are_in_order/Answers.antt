use Rattle.std.proofs.Common.{rules, of_calls, not}
use Rattle.std.proofs.lemmas.Fn.{always_returns_same}
use Rattle.std.specs.Ordering.{is_lt}
use Rattle.ctl_store.specs.Slots.{placed_cmp}
use Rattle.ctl_store.specs.Inside.HeldPieces.{joined}
use Rattle.ctl_store.proofs.OrderLemmas.{in_order}
use Rattle.ctl_store.proofs.order.are_in_order.Goals as goal

pub returns : goal.returns
returns c =
    let slots = joined c.args.slots.now in
    in_order (λ x y. is_lt (placed_cmp slots x y)) c.args.placed.now c.is_sorted_by.result
    (c.is_sorted_by.ensures.cases (λ x y. not (is_lt (placed_cmp slots y x))) (always_returns_same _ _ _ (λ a r f k. search (rules, of_calls))))
