use Rattle.std.proofs.Common.{arith, rules, ◌<◌, length}
use Rattle.ctl_store.proofs.PiecesLemmas.{length_read, spot_within}
use Rattle.ctl_store.proofs.PointLemmas.{get_joined}
use Rattle.ctl_store.proofs.slots.slot_at.Goals as goal

pub bounds-slots-spot : goal.bounds-slots-spot
bounds-slots-spot c = spot_within c.args.slots.now c.args.spot.piece c.args.spot.at c.requires

pub offset_bounds-slots-spot : goal.offset_bounds-slots-spot
offset_bounds-slots-spot c =
    let l : c.args.spot.piece < length c.args.slots.now = spot_within c.args.slots.now c.args.spot.piece c.args.spot.at c.requires in
    search (rules, l)

pub index-requires : goal.index-requires
index-requires c =
    let spot = c.args.spot in
    omega (arith, length_read c.args.slots.now spot.piece c.index-slots-spot.result (spot_within c.args.slots.now spot.piece spot.at c.requires) c.index-slots-spot.is, c.requires)

pub returns : goal.returns
returns c = λ d. get_joined c.args.slots.now c.args.spot.piece c.args.spot.at c.index-slots-spot.result c.index.result.now d c.requires c.index-slots-spot.is c.index.ensures
