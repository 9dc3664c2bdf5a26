use Rattle.std.proofs.Common.{◌∙◌, sym, ap, refl}
use Rattle.ctl_stanza.specs.LineKind.{kind_of}
use Rattle.ctl_stanza.specs.Fields.{is_same_name}
use Rattle.ctl_stanza.proofs.WalkLemmas.{other-name}
use Rattle.ctl_stanza.proofs.walk.names_field.Goals as goal

pub returns-then-not-is_same_name : goal.returns-then-not-is_same_name
returns-then-not-is_same_name c =
    let name = c.args.name.now in
    sym (other-name c.args.line.now name (kind_of c.args.line.now) refl (λ lt at same.
    let clash = sym (ap (λ t. is_same_name t name) c.split_at.ensures.front ∙ same) ∙ (sym c.is_same_name.ensures ∙ c.if-not-is_same_name.true) in absurd cc))
