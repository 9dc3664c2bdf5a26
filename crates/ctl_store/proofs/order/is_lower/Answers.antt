use Rattle.std.proofs.Common.{rules, arith, ◌<◌, length, ap, sym, ◌∙◌}
use Rattle.std.specs.Ordering.{is_lt}
use Rattle.ctl_store.specs.Inside.HeldPieces.{joined, IsSpot}
use Rattle.ctl_store.proofs.PiecesLemmas.{length_read, spot_within}
use Rattle.ctl_store.proofs.PointLemmas.{get_joined, on_true, on_true_map, lower_between, spot_or_end}
use Rattle.ctl_store.proofs.order.is_lower.Goals as goal

pub offset_bounds-order-likely : goal.offset_bounds-order-likely
offset_bounds-order-likely c =
    let l : c.args.likely.piece < length c.args.order.now = spot_within c.args.order.now c.args.likely.piece c.args.likely.at c.if-not-is_spot.ensures in
    search (rules, l)

pub bounds-order-likely : goal.bounds-order-likely
bounds-order-likely c = spot_within c.args.order.now c.args.likely.piece c.args.likely.at c.if-not-is_spot.ensures

pub index-there-requires : goal.index-there-requires
index-there-requires c =
    let spot = c.args.likely in
    let ps = c.args.order.now in
    let there : IsSpot ps spot = c.if-not-is_spot.ensures in
    omega (arith, length_read ps spot.piece c.index-order-likely.result (spot_within ps spot.piece spot.at there) c.index-order-likely.is, there)

pub returns-clause-place : goal.returns-clause-place
returns-clause-place c =
    let spot = c.args.likely in
    let ps = c.args.order.now in
    let there : IsSpot ps spot = c.if-not-is_spot.ensures in
    let one = c.index-there.result.now in
    on_true_map c.follows_lesser.result
    (lower_between (joined c.args.slots.now) c.requires.kept.0 ps c.requires.kept.1 c.args.sought.now spot there one
    (λ d. get_joined ps spot.piece spot.at c.index-order-likely.result one d there c.index-order-likely.is c.index-there.ensures)
    (ap is_lt (sym c.compare_placed.ensures) ∙ sym c.is_lt.ensures ∙ c.if-is_lt.false))
    c.follows_lesser.ensures

pub returns-clause-within : goal.returns-clause-within
returns-clause-within c = on_true c.follows_lesser.result (spot_or_end c.args.order.now c.args.likely c.if-not-is_spot.ensures)
