use Rattle.std.proofs.Common.{◌∙◌, Some, ap, sym, arith}
use Rattle.std.specs.Ordering.{is_eq}
use Rattle.ctl_ordered.specs.Ordered.{order_at}
use Rattle.ctl_ordered.proofs.QueueLemmas.{inside, read}
use Rattle.ctl_ordered.proofs.OrderLemmas.{key_order, serial_there, serial_nowhere}
use Rattle.ctl_ordered.proofs.search.look_up.Goals as goal

pub returns-then-at-len-clause-serial : goal.returns-then-at-len-clause-serial
returns-then-at-len-clause-serial g c =
    let o = key_order g.met.K.Eq.laws g.met.K.Ord.total g.met.K.Ord.matches_eq in
    let at = c.end_below-at in
    let q = g.Q.Wanted.wanted c.args.wanted in
    serial_nowhere o c.args.slots.now.entries c.args.order.now.items c.requires.0 c.requires.1 q at.result at.ensures.bound at.ensures.point (λ l. absurd (omega (arith, l, c.if-at-len.true)))

pub returns-then-is_eq-clause-serial : goal.returns-then-is_eq-clause-serial
returns-then-is_eq-clause-serial g c =
    let o = key_order g.met.K.Eq.laws g.met.K.Ord.total g.met.K.Ord.matches_eq in
    let at = c.end_below-at in
    let q = g.Q.Wanted.wanted c.args.wanted in
    let slots = c.args.slots.now.entries in
    let within = inside c.args.order.now at.result (omega (arith, c.if-at-len.false, c.len.ensures)) in
    let same = read c.args.order.now at.result c.index-serial.result.now c.index-serial.ensures (omega (arith, c.if-at-len.false, c.len.ensures)) in
    ap (λ s. Some s) same
    ∙ serial_there o slots c.args.order.now.items c.requires.0 c.requires.1 q at.result at.ensures.bound at.ensures.point within
    (ap (λ s. is_eq (order_at g.K.Ord.cmp slots q s)) (sym same) ∙ ap is_eq (sym c.order_at.ensures) ∙ sym c.is_eq.ensures ∙ c.if-is_eq.true)

pub returns-else-is_eq-clause-serial : goal.returns-else-is_eq-clause-serial
returns-else-is_eq-clause-serial g c =
    let o = key_order g.met.K.Eq.laws g.met.K.Ord.total g.met.K.Ord.matches_eq in
    let at = c.end_below-at in
    let q = g.Q.Wanted.wanted c.args.wanted in
    let slots = c.args.slots.now.entries in
    let same = read c.args.order.now at.result c.index-serial.result.now c.index-serial.ensures (omega (arith, c.if-at-len.false, c.len.ensures)) in
    serial_nowhere o slots c.args.order.now.items c.requires.0 c.requires.1 q at.result at.ensures.bound at.ensures.point
    (λ l. ap (λ s. is_eq (order_at g.K.Ord.cmp slots q s)) (sym same) ∙ ap is_eq (sym c.order_at.ensures) ∙ sym c.is_eq.ensures ∙ c.if-is_eq.false)
