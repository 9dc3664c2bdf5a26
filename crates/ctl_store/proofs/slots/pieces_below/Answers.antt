use Rattle.std.proofs.Common.{rules, of_calls, ◌<◌, ◌≡◌, ◌∙◌, ◌-◌, Bool, true, false, length, get_or, ap, sym, Vec, Global, arith}
use Rattle.std.proofs.lemmas.Fn.{always_returns_same}
use Rattle.ctl_store.specs.declared.slots.Slot.{Slot}
use Rattle.ctl_store.specs.Inside.HeldPieces.{joined, last_passes}
use Rattle.ctl_store.proofs.PointLemmas.{is_below, parted_serials, parted_last, end_between, read_passes}
use Rattle.ctl_store.proofs.slots.pieces_below.Goals.{then-likely-eq0, else-likely-eq0}
use Rattle.ctl_store.proofs.slots.pieces_below.Goals as goal

pub returns-clause-point : goal.returns-clause-point
returns-clause-point c =
    let ps = c.args.slots.now in
    let p = is_below c.args.serial in
    c.partition_point.ensures.partitioned (λ v. last_passes p v.items) (always_returns_same _ _ _ (λ a r f k. search (rules, of_calls)))
    (parted_last p ps c.requires.pieces (parted_serials c.args.serial c.requires.rises.0 (joined ps) c.requires.rises.1 c.requires.rises.2))

pub returns-then-ends_before-clause-point : goal.returns-then-ends_before-clause-point
returns-then-ends_before-clause-point c =
    let ps = c.args.slots.now in
    let k = c.first_spot-likely.result.piece in
    let p : Vec Slot Global → Bool = λ v. last_passes (is_below c.args.serial) v.items in
    let parted = parted_last (is_below c.args.serial) ps c.requires.pieces (parted_serials c.args.serial c.requires.rises.0 (joined ps) c.requires.rises.1 c.requires.rises.2) in
    let within : k < length ps = search rules in
    let here : p c.index-slots-likely.result ≡ false = ap (last_passes (is_below c.args.serial)) (sym c.deref.ensures.value) ∙ sym c.ends_before.ensures ∙ c.if-not-ends_before.true in
    let before : (d : Vec Slot Global) → 0 < k → p (get_or ps (k - 1) d) ≡ true =
    elim c.if-likely-eq0.branch [
      | then-likely-eq0 w ↦ λ d l. absurd (omega (arith, l, w.if-likely-eq0))
      | else-likely-eq0 w ↦ λ d l.
          read_passes p ps (k - 1) w.index-slots-likely-else-likely-eq0.result d true (omega (arith, within)) w.index-slots-likely-else-likely-eq0.is
          (ap (last_passes (is_below c.args.serial)) (sym w.deref-else-likely-eq0.ensures.value) ∙ sym w.ends_before-else-likely-eq0.ensures ∙ sym w.value-is ∙ c.if-ends_before.true)
    ] in
    end_between p ps k parted within before (λ d. read_passes p ps k c.index-slots-likely.result d false within c.index-slots-likely.is here)
