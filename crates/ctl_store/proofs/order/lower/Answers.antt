use Rattle.std.proofs.Common.{rules, of_calls, Bool, ◌<◌, ◌≡◌, length, arith}
use Rattle.std.proofs.lemmas.Fn.{always_returns_same}
use Rattle.std.specs.Ordering.{is_lt}
use Rattle.ctl_store.specs.declared.fronts.Placed.{Placed}
use Rattle.ctl_store.specs.Slots.{placed_at}
use Rattle.ctl_store.specs.Inside.HeldPieces.{joined, last_passes, stands_at, length_at, IsEnd}
use Rattle.ctl_store.proofs.OrderLemmas.{parted_placed, lower_is}
use Rattle.ctl_store.proofs.PointLemmas.{parted_last, end_found, end_past, stands_within, stands_end}
use Rattle.ctl_store.proofs.order.lower.Goals as goal

both : (c : goal.After-partition_point) → IsEnd (λ s. is_lt (placed_at (joined c.args.slots.now) c.args.sought.now s)) (joined c.args.order.now) (stands_at c.args.order.now c.partition_point-piece.result c.partition_point.result) × (c.partition_point.result < length_at c.args.order.now c.partition_point-piece.result)
both c =
    let ps = c.args.order.now in
    let q = c.args.sought.now in
    let p : Placed → Bool = λ s. is_lt (placed_at (joined c.args.slots.now) q s) in
    let parted = parted_placed (joined c.args.slots.now) c.requires.kept.0 (joined ps) c.requires.kept.1 q in
    let outer = c.partition_point-piece.ensures.partitioned (λ v. last_passes p v.items) (always_returns_same _ _ _ (λ a r f k. search (rules, of_calls))) (parted_last p ps c.requires.order parted) in
    end_found p ps c.partition_point-piece.result c.partition_point.result c.deref.result.now c.requires.order parted outer (search rules) (λ d. search rules) c.partition_point.ensures.bound
    (c.partition_point.ensures.partitioned p (always_returns_same _ _ _ (λ a r f k. search (rules, of_calls))))

pub returns-in-Some-clause-place : goal.returns-in-Some-clause-place
returns-in-Some-clause-place c =
    let ps = c.args.order.now in
    let k = c.partition_point-piece.result in
    let r = c.partition_point.result in
    let found = both c in
    lower_is (joined c.args.slots.now) c.requires.kept.0 (joined ps) c.requires.kept.1 c.args.sought.now (stands_at ps k r) (omega (arith, stands_within ps k r found.1)) found.0

pub returns-in-Some-clause-within : goal.returns-in-Some-clause-within
returns-in-Some-clause-within c =
    let below : c.partition_point-piece.result < length c.args.order.now = search rules in
    record { piece = omega (arith, below); item = λ l. (both c).1; end = λ e. absurd (omega (arith, e, below)) }

pub returns-in-None-clause-place : goal.returns-in-None-clause-place
returns-in-None-clause-place c =
    let ps = c.args.order.now in
    let k = c.partition_point-piece.result in
    let q = c.args.sought.now in
    let p : Placed → Bool = λ s. is_lt (placed_at (joined c.args.slots.now) q s) in
    let parted = parted_placed (joined c.args.slots.now) c.requires.kept.0 (joined ps) c.requires.kept.1 q in
    let outer = c.partition_point-piece.ensures.partitioned (λ v. last_passes p v.items) (always_returns_same _ _ _ (λ a r f k. search (rules, of_calls))) (parted_last p ps c.requires.order parted) in
    let all : k ≡ length ps = search rules in
    let at : stands_at ps k 0 ≡ stands_at ps (length ps) 0 = λ j. stands_at ps (all j) 0 in
    lower_is (joined c.args.slots.now) c.requires.kept.0 (joined ps) c.requires.kept.1 q (stands_at ps k 0) (omega (arith, at, stands_end ps 0)) (end_past p ps k c.requires.order parted outer all)
