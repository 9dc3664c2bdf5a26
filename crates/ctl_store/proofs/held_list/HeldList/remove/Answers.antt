use Rattle.std.proofs.Common.{◌≡◌, ◌∙◌, sym, ap, subst, List, ℕ, Some, option_copied, option_map}
use Rattle.std.specs.List.{remove}
use Rattle.ctl_stanza.specs.Content.{Content}
use Rattle.ctl_store.specs.declared.fronts.Placed.{Placed}
use Rattle.ctl_store.specs.Step.{place}
use Rattle.ctl_store.specs.Slots.{HasOrder, id, ids_of, sorted_ids, lower, by_name_and_version}
use Rattle.ctl_store.specs.Inside.HeldPieces.{joined, place_of_spot}
use Rattle.ctl_store.proofs.OrderLemmas.{kept_remove}
use Rattle.ctl_store.proofs.held_list.HeldList.remove.Goals as goal

pub invariant_of-self : goal.invariant_of-self
invariant_of-self c =
    let s = c.self.inside in
    let ps = s.slots.pieces in
    let slots = joined ps in
    let order = joined s.order.pieces in
    let name = c.args.name.now in
    let version = option_copied c.args.version in
    let spot = c.in-Some.spot in
    let order_spot = c.look_up-place.result.0 in
    let found : place (by_name_and_version name version) slots ≡ Some (place_of_spot ps spot) =
    ap (λ l. place (by_name_and_version name version) (joined l)) (sym c.as_slice-slots.ensures.same) ∙ sym c.look_up-place.ensures.place
    ∙ ap (option_map (λ t. place_of_spot c.as_slice-slots.result.now t)) c.in-Some.is ∙ (λ j. Some (place_of_spot (c.as_slice-slots.ensures.same j) spot)) in
    let at : place_of_spot s.order.pieces order_spot ≡ lower (id name version) (sorted_ids (ids_of slots)) =
    (λ j. place_of_spot (sym c.as_slice-order.ensures.same j) order_spot) ∙ c.look_up-place.ensures.order ∙ (λ j. lower (id name version) (sorted_ids (ids_of (joined (c.as_slice-slots.ensures.same j))))) in
    subst (λ (l : List (ℕ × Content)). HasOrder l s.next (joined c.remove.new.self.pieces)) (sym c.remove-in-Some.ensures)
    (subst (λ (l : List Placed). HasOrder (remove slots (place_of_spot ps spot)) s.next l) (sym (c.remove.ensures ∙ ap (remove order) at)) (kept_remove slots s.next order c.self.invariant name version (place_of_spot ps spot) found))
