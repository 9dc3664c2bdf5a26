use Rattle.std.proofs.Common.{◌≡◌, ◌∙◌, ◌+◌, ◌-◌, sym, arith}
use Rattle.ctl_query.proofs.RisingLemmas.{rise_one, rise_more, less_where}
use Rattle.ctl_query.proofs.name_set.are_in_order.Goals as goal

pub loop-place-init : goal.loop-place-init
loop-place-init c = rise_one c.args.names.now

pub loop-place-preserved : goal.loop-place-preserved
loop-place-preserved c =
    let next : c.loop-place.place ≡ (c.loop-place.place - 1) + 1 = omega arith in
    rise_more c.args.names.now (c.loop-place.place - 1) c.loop-place.place _ _ next c.loop-place-test.true (less_where _ (sym c.is_below.ensures ∙ c.if-not-is_below.false)) c.loop-place.invariant
