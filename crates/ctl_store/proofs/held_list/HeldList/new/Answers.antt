use Rattle.std.proofs.Common.{◌∙◌, ◌++◌, ◌+◌, map, length, ap, sym, subst, arith}
use Rattle.ctl_store.specs.Slots.{Rises, sorted_placed}
use Rattle.ctl_store.specs.Inside.HeldPieces.{joined}
use Rattle.ctl_store.specs.Plans.{ListRoom}
use Rattle.ctl_store.proofs.PlaceLemmas.{Rises-slots_from}
use Rattle.ctl_store.proofs.OrderLemmas.{length-placed, kept_sorted}
use Rattle.ctl_store.proofs.held_list.HeldList.new.Goals as goal
use Rattle.std.proofs.lemmas.List.{length-map}

pub sort_placed-requires-clause-rises : goal.sort_placed-requires-clause-rises
sort_placed-requires-clause-rises c =
    let xs = map (λ stanza. stanza.value) c.args.list.stanzas.items in
    (0, 0 + length xs, subst (λ l. Rises 0 l (0 + length xs)) (sym (ap joined c.as_slice.ensures.same ∙ c.fill_slots-next.ensures.slots)) (Rises-slots_from 0 xs))

pub extend-requires : goal.extend-requires
extend-requires c =
    let stanzas = c.args.list.stanzas.items in
    let xs = map (λ stanza. stanza.value) stanzas in
    omega (
      arith,
      c.requires.order,
      ap (λ (room : ListRoom). room.order) c.room.view_is,
      ap length c.sort_placed.ensures,
      ap (λ l. length (sorted_placed l)) (ap joined c.as_slice.ensures.same ∙ c.fill_slots-next.ensures.slots),
      length-placed xs,
      length-map stanzas (λ stanza. stanza.value),
    )

pub invariant_of-result : goal.invariant_of-result
invariant_of-result c =
    let xs = map (λ stanza. stanza.value) c.args.list.stanzas.items in
    let slots = c.forget_room.new.self in
    kept_sorted (joined slots.pieces) c.fill_slots-next.result (joined c.forget_room-2.new.self.pieces) xs
    (ap joined c.forget_room.ensures ∙ c.fill_slots-next.ensures.slots)
    (omega (arith, c.fill_slots-next.ensures.next, length-map c.args.list.stanzas.items (λ stanza. stanza.value)))
    (ap joined c.forget_room-2.ensures ∙ c.extend.ensures ∙ ap (λ l. joined l ++ c.sort_placed.new.placed.items) c.room.invariant.no_order ∙ c.sort_placed.ensures
    ∙ ap (λ l. sorted_placed (joined l)) (c.as_slice.ensures.same ∙ sym c.forget_room.ensures))
