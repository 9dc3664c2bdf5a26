use Rattle.std.proofs.Common.{rules, arith, ◌≡◌, ◌∙◌, ◌<◌, ◌-◌, Bool, length, get_or, ap, sym}
use Rattle.std.specs.Ordering.{is_lt}
use Rattle.ctl_store.specs.declared.fronts.Placed.{Placed}
use Rattle.ctl_store.specs.Slots.{placed_at}
use Rattle.ctl_store.specs.Inside.HeldPieces.{joined, last_passes, stands_at, place_of_spot}
use Rattle.ctl_store.proofs.PiecesLemmas.{length_read, piece_read, spot_within}
use Rattle.ctl_store.proofs.PointLemmas.{get_joined, last_is, told, last_before}
use Rattle.ctl_store.proofs.order.follows_lesser.Goals as goal

pub offset_bounds-order-spot : goal.offset_bounds-order-spot
offset_bounds-order-spot c =
    let l : c.args.spot.piece < length c.args.order.now = spot_within c.args.order.now c.args.spot.piece c.args.spot.at c.requires.spot in
    search (rules, l)

pub bounds-order-spot : goal.bounds-order-spot
bounds-order-spot c = spot_within c.args.order.now c.args.spot.piece c.args.spot.at c.requires.spot

pub index-before-requires : goal.index-before-requires
index-before-requires c =
    let spot = c.args.spot in
    let ps = c.args.order.now in
    omega (arith, length_read ps spot.piece c.index-order-spot.result (spot_within ps spot.piece spot.at c.requires.spot) c.index-order-spot.is, c.requires.spot, c.if-spot-gt0.true)

pub returns-then-spot-gt0 : goal.returns-then-spot-gt0
returns-then-spot-gt0 c =
    let spot = c.args.spot in
    let ps = c.args.order.now in
    let q = c.args.sought.now in
    let behind : place_of_spot ps spot - 1 ≡ stands_at ps spot.piece (spot.at - 1) = omega (arith, c.if-spot-gt0.true) in
    let p : Placed → Bool = λ s. is_lt (placed_at (joined c.args.slots.now) q s) in
    told _ p c.is_lt.result (λ d. get_or (joined ps) (place_of_spot ps spot - 1) d)
    (λ d. c.is_lt.ensures ∙ ap is_lt c.compare_placed.ensures
    ∙ ap p (sym (ap (λ n. get_or (joined ps) n d) behind ∙ get_joined ps spot.piece (spot.at - 1) c.index-order-spot.result c.index-before.result.now d (omega (arith, c.requires.spot)) c.index-order-spot.is c.index-before.ensures)))

pub offset_bounds-order-spot-2 : goal.offset_bounds-order-spot-2
offset_bounds-order-spot-2 c =
    let l : c.args.spot.piece < length c.args.order.now = spot_within c.args.order.now c.args.spot.piece c.args.spot.at c.requires.spot in
    let k : c.args.spot.piece - 1 < length c.args.order.now = omega (arith, l) in
    search (rules, k)

pub bounds-order-spot-2 : goal.bounds-order-spot-2
bounds-order-spot-2 c = omega (arith, spot_within c.args.order.now c.args.spot.piece c.args.spot.at c.requires.spot)

pub returns : goal.returns
returns c =
    let spot = c.args.spot in
    let ps = c.args.order.now in
    let v = c.index-order-spot-2.result in
    let p : Placed → Bool = λ s. is_lt (placed_at (joined c.args.slots.now) c.args.sought.now s) in
    let l = spot_within ps spot.piece spot.at c.requires.spot in
    let one = (piece_read ps (spot.piece - 1) v c.requires.order (omega (arith, l)) c.index-order-spot-2.is).some in
    told _ p c.ends_before.result (λ d. get_or (joined ps) (place_of_spot ps spot - 1) d)
    (λ d. c.ends_before.ensures ∙ ap (last_passes p) c.deref.ensures.value ∙ last_is p v.items (length v.items - 1) d (omega (arith, one))
    ∙ ap p (sym (last_before ps c.requires.order spot l (omega (arith, c.if-spot-eq0.false)) (omega (arith, c.if-spot-gt0.false)) v c.index-order-spot-2.is d)))
