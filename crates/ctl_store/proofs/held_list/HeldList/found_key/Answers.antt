use Rattle.std.proofs.Common.{◌≡◌, ◌∙◌, Some, ◌∷◌, [], sym, ap, option_copied, option_map}
use Rattle.ctl_store.specs.Step.{place}
use Rattle.ctl_store.specs.Slots.{by_name_and_version}
use Rattle.ctl_store.specs.Inside.HeldPieces.{joined, place_of_spot}
use Rattle.ctl_store.specs.Keys.{KeyedList, found_key, key_at, key_of, new_list}
use Rattle.ctl_store.specs.Store.{keyed_list}
use Rattle.ctl_store.proofs.PlaceLemmas.{place_within}
use Rattle.ctl_store.proofs.OrderLemmas.{key_read}
use Rattle.ctl_store.proofs.held_list.HeldList.found_key.Goals as goal

pub returns-in-Some-clause-key : goal.returns-in-Some-clause-key
returns-in-Some-clause-key c =
    let inside = c.self.inside in
    let ps = c.as_slice-slots.result.now in
    let test = by_name_and_version c.args.name.now (option_copied c.args.version) in
    let at = place_of_spot ps c.in-Some.spot in
    let l : KeyedList = new_list inside.serial inside.kind inside.class inside.next (joined ps) in
    let found : place test (joined ps) ≡ Some at = sym c.look_up-place.ensures.place ∙ ap (option_map (λ s. place_of_spot ps s)) c.in-Some.is in
    let same : l ≡ keyed_list c.args.self.now = (λ j. new_list inside.serial inside.kind inside.class inside.next (joined (c.as_slice-slots.ensures.same j))) ∙ ap keyed_list c.self.view_is in
    ap (λ n. key_of inside.serial n ∷ []) c.serial.ensures
    ∙ sym (key_read l at c.slot_at.result.now (place_within test (joined ps) at found) c.slot_at.ensures)
    ∙ ap (key_at l) (sym found)
    ∙ ap (λ (k : KeyedList). found_key c.args.name.now (option_copied c.args.version) k) same
