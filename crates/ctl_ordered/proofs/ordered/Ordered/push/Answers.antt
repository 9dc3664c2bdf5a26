use Rattle.std.proofs.Common.{◌∙◌, ◌+◌, ◌++◌, ◌∷◌, [], ap, sym, subst}
use Rattle.std.specs.List.{insert}
use Rattle.std.specs.Map.{lookup}
use Rattle.indexmap.specs.IndexMap.{insert_entry}
use Rattle.ctl_ordered.specs.Slots.{entries_of, filled_of}
use Rattle.ctl_ordered.specs.Ordered.{entries, IsOrdered}
use Rattle.ctl_ordered.proofs.OrderLemmas.{key_order, ordered_pushed}
use Rattle.ctl_ordered.proofs.ordered.Ordered.push.Goals as goal

pub invariant_of-self : goal.invariant_of-self
invariant_of-self g c =
    let o = c.self.inside in
    let eq = g.K.PartialEq.eq in
    let R = g.K.Ord.cmp in
    let k = c.args.key in
    let at = c.end_below-at in
    let pushed = ordered_pushed (key_order g.met.K.Eq.laws g.met.K.Ord.total g.met.K.Ord.matches_eq) o.slots.entries o.order.items o.next c.self.invariant k at.result at.ensures.bound at.ensures.point c.args.value (ap (λ v. lookup (eq k) (entries v)) c.self.view_is ∙ c.requires.new) in
    subst (λ l. IsOrdered eq R c.trim.new.slots.entries l (o.next + 1)) (sym c.in-Ok.ensures.items)
    (subst (λ rs. IsOrdered eq R rs (insert o.order.items at.result o.next) (o.next + 1)) (sym (c.trim.ensures ∙ c.in-Ok-insert.ensures.entries)) pushed.0)

pub returns : goal.returns
returns g c =
    let o = c.self.inside in
    let eq = g.K.PartialEq.eq in
    let k = c.args.key in
    let at = c.end_below-at in
    let pushed = ordered_pushed (key_order g.met.K.Eq.laws g.met.K.Ord.total g.met.K.Ord.matches_eq) o.slots.entries o.order.items o.next c.self.invariant k at.result at.ensures.bound at.ensures.point c.args.value (ap (λ v. lookup (eq k) (entries v)) c.self.view_is ∙ c.requires.new) in
    record {
      entries = ap entries_of (c.trim.ensures ∙ c.in-Ok-insert.ensures.entries) ∙ pushed.1 ∙ ap (λ v. insert_entry eq (entries v) k c.args.value) c.self.view_is;
      filled = ap filled_of (c.trim.ensures ∙ c.in-Ok-insert.ensures.entries) ∙ pushed.2 ∙ ap (λ v. v.filled ++ (v.next, (k, c.args.value)) ∷ []) c.self.view_is;
      next = ap (λ v. v.next + 1) c.self.view_is;
    }
