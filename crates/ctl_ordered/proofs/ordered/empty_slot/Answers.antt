use Rattle.std.proofs.Common.{◌∙◌, sym, ap, nat_eq}
use Rattle.ctl_ordered.specs.declared.slot.Slot.TheVariants.{Hole}
use Rattle.ctl_ordered.proofs.SlotLemmas.{set_none}
use Rattle.ctl_ordered.proofs.ordered.empty_slot.Goals as goal

pub returns-in-None : goal.returns-in-None
returns-in-None g c = ap (λ m. m.entries) c.get_mut.follows.holds-at-none ∙ sym (set_none (nat_eq c.args.serial) c.args.slots.now.entries Hole (sym c.in-None.ensures.value))
