use Rattle.std.proofs.Common.{◌∙◌, ℕ, sym, ap}
use Rattle.ctl_stanza.specs.Content.{Content}
use Rattle.ctl_store.specs.Inside.HeldPieces.{joined, place_of_spot, IsSpot}
use Rattle.ctl_store.proofs.PointLemmas.{stands_within}
use Rattle.ctl_store.proofs.slots.spot_of.Goals as goal
use Rattle.ctl_store.proofs.PlaceLemmas.{place_at}

pub returns-then-serial-clause-place : goal.returns-then-serial-clause-place
returns-then-serial-clause-place c =
    let ps = c.args.slots.now in
    let spot = c.first_spot-likely.result in
    let there : IsSpot ps spot = c.if-is_spot.ensures in
    sym (place_at c.args.serial c.requires.rises.0 (joined ps) c.requires.rises.1 (place_of_spot ps spot) c.requires.rises.2 (stands_within ps spot.piece spot.at there)
    (λ d. ap (λ (r : ℕ × Content). r.0) (c.slot_at.ensures d) ∙ sym c.serial.ensures ∙ c.if-serial.true))
