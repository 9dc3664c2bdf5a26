use Rattle.std.proofs.Common.{◌∙◌, Some, length, sym, ap, refl}
use Rattle.ctl_stanza.specs.declared.line_kind.LineKind.TheVariants.{Field}
use Rattle.ctl_stanza.specs.LineKind.{kind_of}
use Rattle.ctl_stanza.proofs.WalkLemmas.{walk-next, walk-behind, named-kind, loose-here, body-here, body-other}
use Rattle.ctl_stanza.proofs.walk.body_in.Goals as goal

pub body_at-requires-clause-name : goal.body_at-requires-clause-name
body_at-requires-clause-name c =
    (named-kind c.in-Some.line.now c.args.name.now (kind_of c.in-Some.line.now) refl (sym c.names_field.ensures ∙ c.if-names_field.true)).2

pub body_at-requires-clause-behind : goal.body_at-requires-clause-behind
body_at-requires-clause-behind c =
    (walk-next c.lines.left.now c.lines.others.now c.in-Some.line.now c.in-Some.behind.now c.lines.invariant.walk c.in-Some.ensures.lines c.in-Some.ensures.first).is_text

pub body_at-requires-clause-loose : goal.body_at-requires-clause-loose
body_at-requires-clause-loose c =
    let next = walk-next c.lines.left.now c.lines.others.now c.in-Some.line.now c.in-Some.behind.now c.lines.invariant.walk c.in-Some.ensures.lines c.in-Some.ensures.first in
    let named = named-kind c.in-Some.line.now c.args.name.now (kind_of c.in-Some.line.now) refl (sym c.names_field.ensures ∙ c.if-names_field.true) in
    loose-here c.lines.left.now c.lines.others.now c.in-Some.line.now c.in-Some.behind.now (Field (length c.args.name.now)) next named.0

pub returns-then-names_field : goal.returns-then-names_field
returns-then-names_field c =
    let named = named-kind c.in-Some.line.now c.args.name.now (kind_of c.in-Some.line.now) refl (sym c.names_field.ensures ∙ c.if-names_field.true) in
    ap Some c.body_at.ensures ∙ sym (body-here c.lines.left.now c.in-Some.line.now c.in-Some.behind.now c.args.name.now c.in-Some.ensures.lines named.0 named.1) ∙ c.lines.invariant.told

pub loose_behind-others-requires-clause-behind : goal.loose_behind-others-requires-clause-behind
loose_behind-others-requires-clause-behind c =
    (walk-next c.lines.left.now c.lines.others.now c.in-Some.line.now c.in-Some.behind.now c.lines.invariant.walk c.in-Some.ensures.lines c.in-Some.ensures.first).is_text

pub lines-preserved : goal.lines-preserved
lines-preserved c =
    let next = walk-next c.lines.left.now c.lines.others.now c.in-Some.line.now c.in-Some.behind.now c.lines.invariant.walk c.in-Some.ensures.lines c.in-Some.ensures.first in
    record {
      walk = walk-behind c.lines.left.now c.lines.others.now c.in-Some.line.now c.in-Some.behind.now c.loose_behind-others.result.now next c.loose_behind-others.ensures;
      told = body-other c.lines.left.now c.in-Some.line.now c.in-Some.behind.now c.args.name.now c.in-Some.ensures.lines (sym c.names_field.ensures ∙ c.if-names_field.false) ∙ c.lines.invariant.told;
    }
