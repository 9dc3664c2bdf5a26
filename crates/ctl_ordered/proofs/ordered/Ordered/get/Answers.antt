use Rattle.std.proofs.Common.{◌∙◌, ap, sym}
use Rattle.std.specs.Map.{lookup}
use Rattle.ctl_ordered.specs.Ordered.{entries}
use Rattle.ctl_ordered.proofs.OrderLemmas.{key_order, ordered_value, ordered_gap, ordered_no_value}
use Rattle.ctl_ordered.proofs.ordered.Ordered.get.Goals as goal

pub returns-in-Some : goal.returns-in-Some
returns-in-Some g c =
    let o = c.self.inside in
    let q = g.Q.Wanted.wanted c.args.wanted in
    let found = c.in_default-Some in
    c.value.ensures
    ∙ ordered_value (key_order g.met.K.Eq.laws g.met.K.Ord.total g.met.K.Ord.matches_eq) o.slots.entries o.order.items o.next c.self.invariant q found.serial c.in-Some.slot.now (sym found.is-1 ∙ c.look_up.ensures.serial) c.in-Some.ensures.value
    ∙ ap (λ v. lookup (g.K.PartialEq.eq q) (entries v)) c.self.view_is

pub returns-in-None : goal.returns-in-None
returns-in-None g c =
    let o = c.self.inside in
    let q = g.Q.Wanted.wanted c.args.wanted in
    let found = c.in_default-Some in
    absurd (ordered_gap (key_order g.met.K.Eq.laws g.met.K.Ord.total g.met.K.Ord.matches_eq) o.slots.entries o.order.items o.next c.self.invariant q found.serial (sym found.is-1 ∙ c.look_up.ensures.serial) c.in-None.ensures.value)

pub returns-in_default-None : goal.returns-in_default-None
returns-in_default-None g c =
    let o = c.self.inside in
    let q = g.Q.Wanted.wanted c.args.wanted in
    (ordered_no_value (key_order g.met.K.Eq.laws g.met.K.Ord.total g.met.K.Ord.matches_eq) o.slots.entries o.order.items o.next c.self.invariant q (sym c.in_default-None.is-1 ∙ c.look_up.ensures.serial)).0
    ∙ ap (λ v. lookup (g.K.PartialEq.eq q) (entries v)) c.self.view_is
