use Rattle.std.proofs.Common.{◌≡◌, ◌∙◌, ◌<◌, ℕ, sym, ap, arith, length}
use Rattle.ctl_stanza.specs.Content.{Content}
use Rattle.ctl_store.specs.Inside.HeldPieces.{joined, place_of_spot, stands_at, IsSpot}
use Rattle.ctl_store.proofs.PointLemmas.{stands_end, stands_within, place_nowhere}
use Rattle.ctl_store.proofs.slots.halved_spot.Goals as goal
use Rattle.ctl_store.proofs.PlaceLemmas.{place_at}

pub returns-then-serial-clause-place : goal.returns-then-serial-clause-place
returns-then-serial-clause-place c =
    let ps = c.args.slots.now in
    let spot = c.end_below-spot.result in
    let l : spot.piece < length ps = omega (arith, c.if-spot-slots.false) in
    let there : IsSpot ps spot = c.end_below-spot.ensures.within.item l in
    sym (place_at c.args.serial c.requires.rises.0 (joined ps) c.requires.rises.1 (place_of_spot ps spot) c.requires.rises.2 (stands_within ps spot.piece spot.at there)
    (λ d. ap (λ (r : ℕ × Content). r.0) (c.slot_at.ensures d) ∙ sym c.serial.ensures ∙ c.if-serial.true))

pub returns-else-serial-clause-place : goal.returns-else-serial-clause-place
returns-else-serial-clause-place c =
    let ps = c.args.slots.now in
    sym (place_nowhere c.args.serial c.requires.rises.0 (joined ps) c.requires.rises.1 (place_of_spot ps c.end_below-spot.result) c.requires.rises.2 c.end_below-spot.ensures.point
    (λ w d e. c.if-serial.false (c.serial.ensures ∙ sym (ap (λ (r : ℕ × Content). r.0) (c.slot_at.ensures d)) ∙ e)))

pub returns-then-spot-slots-clause-place : goal.returns-then-spot-slots-clause-place
returns-then-spot-slots-clause-place c =
    let ps = c.args.slots.now in
    let spot = c.end_below-spot.result in
    let within = c.end_below-spot.ensures.within in
    let last : spot.piece ≡ length ps = omega (arith, within.piece, c.if-spot-slots.true) in
    let n = stands_end ps 0 in
    let at : place_of_spot ps spot ≡ length (joined ps) = (λ j. stands_at ps (last j) (within.end last j)) ∙ omega (arith, n) in
    sym (place_nowhere c.args.serial c.requires.rises.0 (joined ps) c.requires.rises.1 (place_of_spot ps spot) c.requires.rises.2 c.end_below-spot.ensures.point
    (λ w d e. absurd (omega (arith, w, at))))
