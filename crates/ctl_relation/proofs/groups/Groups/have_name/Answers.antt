use Rattle.std.proofs.Common.{◌∙◌, ◌||◌, Bool, sym, ap}
use Rattle.ctl_relation.specs.Named.{groups_name}
use Rattle.ctl_relation.proofs.NamedLemmas.{any_at, any_of_some}
use Rattle.ctl_relation.proofs.groups.Groups.have_name.Goals as goal

pub returns-then-is_named_among : goal.returns-then-is_named_among
returns-then-is_named_among c =
    let g = c.self.inside in
    let name = c.args.name.now in
    c.if-is_named_among.true
    ∙ sym (ap (λ (b : Bool). b || any_at g.kind g.body.now name g.further.now) (sym c.is_named_among.ensures ∙ c.if-is_named_among.true))
    ∙ sym (any_of_some g.kind g.body.now name g.starts.now g.further.now (sym c.is_empty.ensures ∙ c.if-is_empty.false))
    ∙ ap (groups_name name) c.self.view_is

pub returns-else-is_named_among : goal.returns-else-is_named_among
returns-else-is_named_among c =
    let g = c.self.inside in
    let name = c.args.name.now in
    c.is_named_among-else-is_named_among.ensures
    ∙ sym (ap (λ (b : Bool). b || any_at g.kind g.body.now name g.further.now) (sym c.is_named_among.ensures ∙ c.if-is_named_among.false))
    ∙ sym (any_of_some g.kind g.body.now name g.starts.now g.further.now (sym c.is_empty.ensures ∙ c.if-is_empty.false))
    ∙ ap (groups_name name) c.self.view_is
