use Rattle.std.proofs.Common.{◌∙◌, List, ℕ, drop, nat_eq, sym, ap}
use Rattle.std.specs.List.{starts_with}
use Rattle.std.specs.Str.{bytes_eq}
use Rattle.ctl_relation.specs.Reading.{name_at}
use Rattle.ctl_relation.proofs.NamedLemmas.{held_name, held_run, no_atom, not_in_front}
use Rattle.ctl_relation.proofs.reading.is_named_at.Goals as goal

pub returns-then-not-begins_with : goal.returns-then-not-begins_with
returns-then-not-begins_with c =
    sym (ap (λ own. bytes_eq own c.args.name.now) (held_run c.args._kind c.args.body.now c.args.place c.requires)
    ∙ not_in_front (drop c.args.place c.args.body.now) c.args.name.now _
    (ap (λ (text : List ℕ). starts_with nat_eq text c.args.name.now) (sym c.split_at.ensures.back) ∙ sym c.begins_with.ensures ∙ c.if-not-begins_with.true))

pub unreachable-requires : goal.unreachable-requires
unreachable-requires c = no_atom c.args._kind c.args.body.now c.args.place _ c.requires (ap name_at (sym c.split_at.ensures.back) ∙ c.in-Err.ensures.gives)

pub returns : goal.returns
returns c =
    c.eq.ensures
    ∙ ap (λ own. bytes_eq own c.args.name.now)
    (held_name c.args._kind c.args.body.now c.args.place c.in-Ok.own.now c.in-Ok.field-0-1.now c.requires (ap name_at (sym c.split_at.ensures.back) ∙ c.in-Ok.ensures.gives))
