use Rattle.std.proofs.Common.{◌∙◌, ap, sym, subst}
use Rattle.ctl_ordered.specs.Slots.{filled_of}
use Rattle.ctl_ordered.specs.Ordered.{IsOrdered}
use Rattle.ctl_ordered.proofs.SlotLemmas.{filled_squeezed}
use Rattle.ctl_ordered.proofs.OrderLemmas.{ordered_squeezed}
use Rattle.ctl_ordered.proofs.ordered.Ordered.squeeze.Goals as goal

pub invariant_of-self : goal.invariant_of-self
invariant_of-self g c =
    let o = c.self.inside in
    subst (λ rs. IsOrdered g.K.PartialEq.eq g.K.Ord.cmp rs o.order.items o.next) (sym c.drop_holes.ensures) (ordered_squeezed o.slots.entries o.order.items o.next c.self.invariant)

pub returns-then-len-clause-filled : goal.returns-then-len-clause-filled
returns-then-len-clause-filled g c = ap filled_of c.drop_holes.ensures ∙ filled_squeezed c.self.inside.slots.entries ∙ ap (λ v. v.filled) c.self.view_is
