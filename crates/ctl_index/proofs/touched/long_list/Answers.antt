use Rattle.std.proofs.Common.{option_copied, slice_get, ap, sym, ◌∙◌}
use Rattle.ctl_store.specs.Edits.{edit_of}
use Rattle.ctl_index.proofs.TouchedLemmas.{listed_first}
use Rattle.ctl_index.proofs.touched.long_list.Goals as goal

pub returns-in_ok-first-in-AddList : goal.returns-in_ok-first-in-AddList
returns-in_ok-first-in-AddList c =
    let list = c.in-AddList in
    listed_first c.args.plan.now list.name list.stanzas.kind list.class list.stanzas.stanzas (sym (ap edit_of list.is) ∙ c.edit.ensures) c.in_ok-first-in-AddList.first.now
    (ap (λ ks. slice_get ks 0) (sym c.added-added.ensures.keys) ∙ sym c.first.ensures.value ∙ ap option_copied c.in_ok-first-in-AddList.was)
