use Rattle.std.proofs.Common.{◌≡◌, ◌∙◌, ◌<◌, ℕ, Option, length, ap, refl, sym, subst}
use Rattle.std.specs.Prelude.{IfSome}
use Rattle.std.specs.List.{remove, IsDistinct}
use Rattle.std.specs.Map.{keys_of, remove_entry}
use Rattle.ctl_ordered.specs.Slots.{filled_of}
use Rattle.ctl_ordered.specs.Ordered.{cut_filled, entries, without_serials, IsOrdered}
use Rattle.ctl_ordered.proofs.QueueLemmas.{taken}
use Rattle.ctl_ordered.proofs.OrderLemmas.{key_order, ordered_cut, ordered_no_value}
use Rattle.ctl_ordered.proofs.ordered.Ordered.remove.Goals as goal

pub invariant_of-self : goal.invariant_of-self
invariant_of-self g c =
    let o = c.self.inside in
    let eq = g.K.PartialEq.eq in
    let R = g.K.Ord.cmp in
    let at = c.look_up.result.0 in
    let found = c.in_default-Some in
    let within = subst (λ (s : Option ℕ). IfSome s (λ _. at < length o.order.items)) found.is-1 c.look_up.ensures.within in
    let cut = ordered_cut (key_order g.met.K.Eq.laws g.met.K.Ord.total g.met.K.Ord.matches_eq) o.slots.entries o.order.items o.next c.self.invariant (g.Q.Wanted.wanted c.args.wanted) at c.look_up.ensures.bound c.look_up.ensures.point found.serial (sym found.is-1 ∙ c.look_up.ensures.serial) within in
    subst (λ l. IsOrdered eq R c.empty_slot.new.slots.entries l o.next) (sym (taken o.order at c.remove.new.self c.remove.result within c.remove.ensures.variant c.remove.ensures.items))
    (subst (λ rs. IsOrdered eq R rs (remove o.order.items at) o.next) (sym c.empty_slot.ensures) cut.0)

pub returns-in_default-Some : goal.returns-in_default-Some
returns-in_default-Some g c =
    let o = c.self.inside in
    let eq = g.K.PartialEq.eq in
    let q = g.Q.Wanted.wanted c.args.wanted in
    let at = c.look_up.result.0 in
    let found = c.in_default-Some in
    let within = subst (λ (s : Option ℕ). IfSome s (λ _. at < length o.order.items)) found.is-1 c.look_up.ensures.within in
    let cut = ordered_cut (key_order g.met.K.Eq.laws g.met.K.Ord.total g.met.K.Ord.matches_eq) o.slots.entries o.order.items o.next c.self.invariant q at c.look_up.ensures.bound c.look_up.ensures.point found.serial (sym found.is-1 ∙ c.look_up.ensures.serial) within in
    let left = c.squeeze.ensures.filled ∙ ap filled_of c.empty_slot.ensures in
    record {
      entries = ap without_serials left ∙ cut.1 ∙ ap (λ v. remove_entry (eq q) (entries v)) c.self.view_is;
      filled = left ∙ cut.2 ∙ ap (λ v. cut_filled (eq q) v.filled) c.self.view_is;
      next = c.squeeze.ensures.next ∙ ap (λ v. v.next) c.self.view_is;
      each_once = subst (λ es. IsDistinct eq (keys_of es)) (ap entries c.self.view_is) c.self.invariant.kept.apart;
    }

pub returns-in_default-None : goal.returns-in_default-None
returns-in_default-None g c =
    let o = c.self.inside in
    let eq = g.K.PartialEq.eq in
    let q = g.Q.Wanted.wanted c.args.wanted in
    let order = key_order g.met.K.Eq.laws g.met.K.Ord.total g.met.K.Ord.matches_eq in
    let none = ordered_no_value order o.slots.entries o.order.items o.next c.self.invariant q (sym c.in_default-None.is-1 ∙ c.look_up.ensures.serial) in
    record {
      entries = subst (λ es. es ≡ remove_entry (eq q) es) (ap entries c.self.view_is) none.1;
      filled = subst (λ rs. rs ≡ cut_filled (eq q) rs) (ap (λ v. v.filled) c.self.view_is) none.2;
      next = refl;
      each_once = subst (λ es. IsDistinct eq (keys_of es)) (ap entries c.self.view_is) c.self.invariant.kept.apart;
    }
