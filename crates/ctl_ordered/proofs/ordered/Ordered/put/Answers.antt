use Rattle.std.proofs.Common.{◌∙◌, ap, sym}
use Rattle.ctl_ordered.specs.Ordered.{entries, next_put, filled_put}
use Rattle.ctl_ordered.proofs.SlotLemmas.{insert_old, from_lent}
use Rattle.ctl_ordered.proofs.ordered.Ordered.put.Goals as goal

pub returns-in-Some : goal.returns-in-Some
returns-in-Some g c =
    let old = c.args.self.now in
    let at = c.in-Some.ensures.value in
    let eq = g.K.PartialEq.eq in
    let has = from_lent c.get_mut.result c.in-Some.place.now (c.get_mut.ensures.value ∙ sym at) (c.get_mut.follows.holds c.args.value) in
    record {
      entries = has.entries ∙ sym (insert_old eq (entries old) c.args.key c.args.value c.in-Some.place.now (sym at));
      filled = has.filled ∙ ap (λ x. filled_put x (eq c.args.key) old c.args.key c.args.value) at;
      next = has.next ∙ ap (λ x. next_put x old) at;
    }
