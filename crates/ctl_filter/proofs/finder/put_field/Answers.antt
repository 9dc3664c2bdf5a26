use Rattle.std.proofs.Common.{◌∙◌, is_some, refl, sym, ap}
use Rattle.ctl_filter.specs.Inside.FieldTable.{held_under}
use Rattle.ctl_filter.proofs.FieldTableLemmas.{field_put}
use Rattle.ctl_filter.proofs.finder.put_field.Goals as goal

pub returns-in_ok-insert : goal.returns-in_ok-insert
returns-in_ok-insert c = λ name.
    field_put c.args.spelled.now c.args.body.now name c.args.fields.now c.in_ok-name.name.items c.in_ok-name.ensures (c.args.spelled, c.args.body) c.insert.new.self refl
    (ap (λ bytes. is_some (held_under bytes c.args.fields.now)) (sym c.as_slice.ensures.value) ∙ sym c.contains_key.ensures ∙ c.if-not-contains_key.true)
    c.in_ok-insert.ensures.updates
