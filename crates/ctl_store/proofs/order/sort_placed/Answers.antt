use Rattle.std.proofs.Common.{rules, of_calls, subst}
use Rattle.std.proofs.lemmas.Fn.{always_returns_same}
use Rattle.std.proofs.lemmas.List.Sorted.{ranks_by, IsPermutation-refl}
use Rattle.std.specs.List.Sorted.{IsSortedBy}
use Rattle.std.specs.Ordering.{is_lt}
use Rattle.ctl_store.specs.Slots.{placed_cmp}
use Rattle.ctl_store.specs.Inside.HeldPieces.{joined}
use Rattle.ctl_store.proofs.OrderLemmas.{sorted_is, placed_total}
use Rattle.ctl_store.proofs.order.sort_placed.Goals as goal

pub returns-then-are_in_order : goal.returns-then-are_in_order
returns-then-are_in_order c =
    let slots = joined c.args.slots.now in
    let placed = c.args.placed.now.items in
    sorted_is slots c.requires.rises.0 c.requires.rises.1 c.requires.rises.2 placed placed c.requires.placed (IsPermutation-refl placed)
    (subst (IsSortedBy (λ x y. is_lt (placed_cmp slots x y))) c.deref.ensures.value c.if-are_in_order.ensures)

pub returns : goal.returns
returns c =
    let slots = joined c.args.slots.now in
    let facts = c.sort_unstable_by.ensures in
    sorted_is slots c.requires.rises.0 c.requires.rises.1 c.requires.rises.2 c.args.placed.now.items c.sort_unstable_by.new.self.items c.requires.placed facts.permutation
    (facts.sorted (λ x y. is_lt (placed_cmp slots x y)) (ranks_by (placed_total slots) (λ x. x)) (always_returns_same _ _ _ (λ a r f k. search (rules, of_calls))))
