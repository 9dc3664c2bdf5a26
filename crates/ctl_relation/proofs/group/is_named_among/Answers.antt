use Rattle.std.proofs.Common.{◌∙◌, ◌<◌, length, sym, arith}
use Rattle.ctl_relation.proofs.NamedLemmas.{any_there}
use Rattle.ctl_relation.proofs.group.is_named_among.Goals as goal

pub returns-then-is_named_at : goal.returns-then-is_named_at
returns-then-is_named_at c =
    let there : c.loop-place.place-index < length c.args.places.now = omega arith in
    sym (any_there c.args.kind c.args.body.now c.args.name.now c.args.places.now c.loop-place.place-index _ there (sym c.is_named_at.ensures ∙ c.if-is_named_at.true))
