use Rattle.std.proofs.Common.{◌≡◌, ◌∙◌, ℕ, Some, sym, ap}
use Rattle.ctl_stanza.specs.Content.{Content}
use Rattle.ctl_store.specs.Slots.{has_serial}
use Rattle.ctl_store.specs.Step.{place}
use Rattle.ctl_store.specs.Inside.HeldPieces.{joined, place_of_spot}
use Rattle.ctl_store.proofs.PlaceLemmas.{lookup-place, lookup-place_none}
use Rattle.ctl_store.proofs.slots.slot_of.Goals as goal

pub returns-in-Some : goal.returns-in-Some
returns-in-Some c =
    let rs = joined c.args.slots.now in
    let at = place_of_spot c.args.slots.now c.in-Some.spot in
    let there : place (has_serial c.args.serial) rs ≡ Some at = sym c.in-Some.ensures.place in
    ap Some (ap (λ (r : ℕ × Content). r.1) (sym (c.slot_at.ensures c.slot_at.result.now)))
    ∙ sym (lookup-place c.args.serial rs at c.slot_at.result.now there)

pub returns-in-None : goal.returns-in-None
returns-in-None c = sym (lookup-place_none c.args.serial (joined c.args.slots.now) (sym c.in-None.ensures.place))
