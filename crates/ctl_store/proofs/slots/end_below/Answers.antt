use Rattle.std.proofs.Common.{rules, of_calls, ◌<◌, ◌≡◌, length, arith}
use Rattle.std.proofs.lemmas.Fn.{always_returns_same}
use Rattle.ctl_store.specs.Inside.HeldPieces.{joined, stands_at, length_at, IsEnd}
use Rattle.ctl_store.proofs.PointLemmas.{is_below, parted_serials, end_found, end_past}
use Rattle.ctl_store.proofs.slots.end_below.Goals as goal

both : (c : goal.After-partition_point) → IsEnd (is_below c.args.serial) (joined c.args.slots.now) (stands_at c.args.slots.now c.pieces_below-piece.result c.partition_point.result) × (c.partition_point.result < length_at c.args.slots.now c.pieces_below-piece.result)
both c =
    let ps = c.args.slots.now in
    let p = is_below c.args.serial in
    let parted = parted_serials c.args.serial c.requires.rises.0 (joined ps) c.requires.rises.1 c.requires.rises.2 in
    end_found p ps c.pieces_below-piece.result c.partition_point.result c.deref.result.now c.requires.pieces parted c.pieces_below-piece.ensures.point (search rules) (λ d. search rules) c.partition_point.ensures.bound
    (c.partition_point.ensures.partitioned p (always_returns_same _ _ _ (λ a r f k. search (rules, of_calls))))

pub returns-in-Some-clause-point : goal.returns-in-Some-clause-point
returns-in-Some-clause-point c = (both c).0

pub returns-in-Some-clause-within : goal.returns-in-Some-clause-within
returns-in-Some-clause-within c =
    let below : c.pieces_below-piece.result < length c.args.slots.now = search rules in
    record { piece = omega (arith, below); item = λ l. (both c).1; end = λ e. absurd (omega (arith, e, below)) }

pub returns-in-None-clause-point : goal.returns-in-None-clause-point
returns-in-None-clause-point c =
    let ps = c.args.slots.now in
    let parted = parted_serials c.args.serial c.requires.rises.0 (joined ps) c.requires.rises.1 c.requires.rises.2 in
    let all : c.pieces_below-piece.result ≡ length ps = search rules in
    end_past (is_below c.args.serial) ps c.pieces_below-piece.result c.requires.pieces parted c.pieces_below-piece.ensures.point all
