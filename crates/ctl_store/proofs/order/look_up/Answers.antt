use Rattle.std.proofs.Common.{Bool, List, Vec, Global, Option, None, ◌≡◌, ◌∙◌, ◌<◌, ℕ, sym, ap, cond, get_or, option_copied, arith, length}
use Rattle.std.specs.Ordering.{is_eq}
use Rattle.ctl_store.specs.Step.{place}
use Rattle.ctl_store.specs.Slots.{HasOrder, id, ids_of, sorted_ids, lower, has_serial, placed_at, by_name_and_version}
use Rattle.ctl_store.specs.Orders.{lower_place}
use Rattle.ctl_stanza.specs.Content.{Content}
use Rattle.ctl_store.specs.declared.fronts.Placed.{Placed}
use Rattle.ctl_store.specs.declared.pieces.Spot.{Spot}
use Rattle.ctl_store.specs.Inside.HeldPieces.{joined, stands_at, place_of_spot, IsSpot}
use Rattle.ctl_store.proofs.OrderLemmas.{found_here, found_past}
use Rattle.ctl_store.proofs.PiecesLemmas.{length_read}
use Rattle.ctl_store.proofs.PointLemmas.{get_joined, stands_within, stands_end}
use Rattle.ctl_store.proofs.order.look_up.Goals as goal

pub returns-then-spot-order-clause-order : goal.returns-then-spot-order-clause-order
returns-then-spot-order-clause-order c = c.lower-spot.ensures.place ∙ ap (λ q. lower_place q (joined c.args.slots.now)) c.new-sought.ensures

pub returns-then-is_eq-clause-order : goal.returns-then-is_eq-clause-order
returns-then-is_eq-clause-order c = c.lower-spot.ensures.place ∙ ap (λ q. lower_place q (joined c.args.slots.now)) c.new-sought.ensures

pub returns-else-is_eq-clause-order : goal.returns-else-is_eq-clause-order
returns-else-is_eq-clause-order c = c.lower-spot.ensures.place ∙ ap (λ q. lower_place q (joined c.args.slots.now)) c.new-sought.ensures

pub returns-then-spot-order-clause-place : goal.returns-then-spot-order-clause-place
returns-then-spot-order-clause-place c =
    let ps = c.args.order.now in
    let spot = c.lower-spot.result in
    let within = c.lower-spot.ensures.within in
    let last : spot.piece ≡ length ps = omega (arith, within.piece, c.if-spot-order.true) in
    let at : place_of_spot ps spot ≡ stands_at ps (length ps) 0 = λ j. stands_at ps (last j) (within.end last j) in
    sym (found_past (joined c.args.slots.now) c.requires.kept.0 (joined ps) c.requires.kept.1 c.args.name.now (option_copied c.args.version) (place_of_spot ps spot) (c.lower-spot.ensures.place ∙ ap (λ q. lower_place q (joined c.args.slots.now)) c.new-sought.ensures) (omega (arith, at, stands_end ps 0)))

pub index-there-requires : goal.index-there-requires
index-there-requires c =
    let spot = c.lower-spot.result in
    let l : spot.piece < length c.args.order.now = c.if-spot-order.false in
    omega (arith, length_read c.args.order.now spot.piece c.index-order-spot.result l c.index-order-spot.is, c.lower-spot.ensures.within.item l)

-- the first slot, by the serial that stands at the spot
found : (slots : List (ℕ × Content)) (next : ℕ) (ps : List (Vec Placed Global)) → HasOrder slots next (joined ps) → (name : List ℕ) (version : Option (List ℕ)) (spot : Spot) → place_of_spot ps spot ≡ lower (id name version) (sorted_ids (ids_of slots))
    → IsSpot ps spot → (p : Vec Placed Global) (s : Placed) → p ≡ get_or ps spot.piece p → s ≡ get_or p.items spot.at s
    → place (by_name_and_version name version) slots ≡ cond (is_eq (placed_at slots (id name version) s)) (place (has_serial s.serial) slots) None
found slots next ps kept name version spot e there p s is at =
    found_here slots next (joined ps) kept name version (place_of_spot ps spot) e s (stands_within ps spot.piece spot.at there)
    ∙ ap (λ (k : Placed). cond (is_eq (placed_at slots (id name version) k)) (place (has_serial k.serial) slots) None) (get_joined ps spot.piece spot.at p s s there is at)

pub returns-then-is_eq-clause-place : goal.returns-then-is_eq-clause-place
returns-then-is_eq-clause-place c =
    let slots = joined c.args.slots.now in
    let one = c.index-there.result.now in
    let spot = c.lower-spot.result in
    c.spot_of.ensures.place
    ∙ sym (found slots c.requires.kept.0 c.args.order.now c.requires.kept.1 c.args.name.now (option_copied c.args.version) spot (c.lower-spot.ensures.place ∙ ap (λ q. lower_place q (joined c.args.slots.now)) c.new-sought.ensures) (c.lower-spot.ensures.within.item c.if-spot-order.false) c.index-order-spot.result one c.index-order-spot.is c.index-there.ensures
    ∙ ap (λ (b : Bool). cond b (place (has_serial one.serial) slots) None) (ap (λ q. is_eq (placed_at slots q one)) (sym c.new-sought.ensures) ∙ ap is_eq (sym c.compare_placed.ensures) ∙ sym c.is_eq.ensures ∙ c.if-is_eq.true))

pub returns-else-is_eq-clause-place : goal.returns-else-is_eq-clause-place
returns-else-is_eq-clause-place c =
    let slots = joined c.args.slots.now in
    let one = c.index-there.result.now in
    let spot = c.lower-spot.result in
    sym (found slots c.requires.kept.0 c.args.order.now c.requires.kept.1 c.args.name.now (option_copied c.args.version) spot (c.lower-spot.ensures.place ∙ ap (λ q. lower_place q (joined c.args.slots.now)) c.new-sought.ensures) (c.lower-spot.ensures.within.item c.if-spot-order.false) c.index-order-spot.result one c.index-order-spot.is c.index-there.ensures
    ∙ ap (λ (b : Bool). cond b (place (has_serial one.serial) slots) None) (ap (λ q. is_eq (placed_at slots q one)) (sym c.new-sought.ensures) ∙ ap is_eq (sym c.compare_placed.ensures) ∙ sym c.is_eq.ensures ∙ c.if-is_eq.false))
