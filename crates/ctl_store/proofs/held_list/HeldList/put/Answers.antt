use Rattle.std.proofs.Common.{◌≡◌, ◌∙◌, ◌+◌, sym, ap, subst, arith, ◌++◌, ◌∷◌, [], List, ℕ, None, Some, option_copied, option_map}
use Rattle.std.specs.List.{insert}
use Rattle.ctl_stanza.specs.Content.{Content, package_of, version_of}
use Rattle.ctl_store.specs.declared.fronts.Placed.{Placed}
use Rattle.ctl_store.specs.Step.{place}
use Rattle.ctl_store.specs.Slots.{HasOrder, id, id_of, ids_of, sorted_ids, lower, placed_slot, by_name_and_version}
use Rattle.ctl_store.specs.Plans.{HasRoomInList}
use Rattle.ctl_store.specs.Inside.HeldPieces.{joined, place_of_spot}
use Rattle.ctl_store.proofs.PiecesLemmas.{last_of_all}
use Rattle.ctl_store.proofs.OrderLemmas.{kept_replace, kept_push, length-order}
use Rattle.ctl_store.proofs.held_list.HeldList.put.Goals as goal
use Rattle.ctl_store.proofs.held_list.HeldList.put.Goals.{in-Some, in-None}

pub insert-requires-clause-room : goal.insert-requires-clause-room
insert-requires-clause-room c =
    let s = c.self.inside in
    let room = subst HasRoomInList (sym c.self.view_is) c.requires.room in
    omega (arith, room.order, length-order (joined s.slots.pieces) s.next (joined s.order.pieces) c.self.invariant)

pub push-requires : goal.push-requires
push-requires c =
    let room = subst HasRoomInList (sym c.self.view_is) c.requires.room in
    omega (arith, room.slot, last_of_all c.self.inside.slots.ready)

pub invariant_of-self : goal.invariant_of-self
invariant_of-self c =
    let s = c.self.inside in
    let m = c.match-place.self-inside in
    let ps = s.slots.pieces in
    let slots = joined ps in
    let order = joined s.order.pieces in
    let x = c.args.stanza.value in
    let spot = c.look_up-place.result.0 in
    let moved : place (by_name_and_version c.package.result.now (option_copied c.version.result)) (joined c.as_slice-slots.result.now) ≡ place (by_name_and_version (package_of x) (version_of x)) slots =
    λ j. place (by_name_and_version ((c.package.ensures.body ∙ ap package_of c.deref.ensures) j) ((c.version.ensures.version ∙ ap version_of c.deref-2.ensures) j)) (joined (c.as_slice-slots.ensures.same j)) in
    let same : id c.package.result.now (option_copied c.version.result) ≡ id_of x = λ j. id ((c.package.ensures.body ∙ ap package_of c.deref.ensures) j) ((c.version.ensures.version ∙ ap version_of c.deref-2.ensures) j) in
    let at : place_of_spot s.order.pieces spot ≡ lower (id_of x) (sorted_ids (ids_of slots)) =
    (λ j. place_of_spot (sym c.as_slice-order.ensures.same j) spot) ∙ c.look_up-place.ensures.order ∙ (λ j. lower (same j) (sorted_ids (ids_of (joined (c.as_slice-slots.ensures.same j))))) in
    let kept : HasOrder (joined m.slots.pieces) m.next (joined m.order.pieces) =
    elim c.match-place.branch [
      | in-Some w ↦
          let found : place (by_name_and_version (package_of x) (version_of x)) slots ≡ Some (place_of_spot ps w.in-Some.spot) =
          sym moved ∙ sym c.look_up-place.ensures.place ∙ ap (option_map (λ t. place_of_spot c.as_slice-slots.result.now t)) w.in-Some.is ∙ (λ j. Some (place_of_spot (c.as_slice-slots.ensures.same j) w.in-Some.spot)) in
          subst (λ i. HasOrder (joined i.slots.pieces) i.next (joined i.order.pieces)) (sym w.self-inside-is)
          (subst (λ l. HasOrder l s.next order) (sym w.replace.ensures) (kept_replace slots s.next order c.self.invariant x (place_of_spot ps w.in-Some.spot) found))
      | in-None w ↦
          let none : place (by_name_and_version (package_of x) (version_of x)) slots ≡ None =
          sym moved ∙ sym c.look_up-place.ensures.place ∙ ap (option_map (λ t. place_of_spot c.as_slice-slots.result.now t)) w.in-None.is in
          let items : joined w.push.new.self.pieces ≡ slots ++ (s.next, x) ∷ [] = w.push.ensures.items ∙ ap (λ r. slots ++ r ∷ []) w.new-in-None.ensures in
          subst (λ i. HasOrder (joined i.slots.pieces) i.next (joined i.order.pieces)) (sym w.self-inside-is)
          (subst (λ (l : List (ℕ × Content)). HasOrder l (s.next + 1) (joined w.insert.new.self.pieces)) (sym items)
          (subst (λ (l : List Placed). HasOrder (slots ++ (s.next, x) ∷ []) (s.next + 1) l) (sym (w.insert.ensures ∙ ap (λ k. insert order k w.new.result) at ∙ ap (insert order (lower (id_of x) (sorted_ids (ids_of slots)))) (w.new.ensures ∙ ap (λ y. placed_slot (s.next, y)) w.deref-in-None.ensures))) (kept_push slots s.next order c.self.invariant x none)))
    ] in
    subst (λ qs. HasOrder (joined qs) m.next (joined c.forget_room-2.new.self.pieces)) (sym c.forget_room.ensures)
    (subst (λ qs. HasOrder (joined m.slots.pieces) m.next (joined qs)) (sym c.forget_room-2.ensures) kept)
