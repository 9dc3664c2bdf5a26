use Rattle.std.proofs.Common.{◌∙◌, ap, nat_eq}
use Rattle.std.specs.Map.{lookup}
use Rattle.ctl_ordered.proofs.SlotLemmas.{entry_in, filled_at}
use Rattle.ctl_ordered.proofs.ordered.Ordered.at.Goals as goal

pub returns-in-Some : goal.returns-in-Some
returns-in-Some g c =
    let o = c.self.inside in
    c.entry.ensures ∙ ap entry_in c.in-Some.ensures.value ∙ filled_at c.args.serial 0 o.slots.entries o.next c.self.invariant.kept.rises
    ∙ ap (λ v. lookup (nat_eq c.args.serial) v.filled) c.self.view_is

pub returns-in-None : goal.returns-in-None
returns-in-None g c =
    let o = c.self.inside in
    ap entry_in c.in-None.ensures.value ∙ filled_at c.args.serial 0 o.slots.entries o.next c.self.invariant.kept.rises ∙ ap (λ v. lookup (nat_eq c.args.serial) v.filled) c.self.view_is
