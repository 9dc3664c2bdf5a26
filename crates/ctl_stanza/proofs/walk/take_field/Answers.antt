use Rattle.std.proofs.Common.{◌∙◌, ◌∷◌, ℕ, List, sym, ap₂, arith}
use Rattle.ctl_stanza.specs.Inside.HeldFields.{bodies_in}
use Rattle.ctl_stanza.proofs.WalkLemmas.{walk-next, walk-behind, bodies-field, bodies-none}
use Rattle.ctl_stanza.proofs.walk.take_field.Goals as goal

pub loose_behind-rest-requires-clause-behind : goal.loose_behind-rest-requires-clause-behind
loose_behind-rest-requires-clause-behind c =
    (walk-next c.lines.left.now c.lines.others.now c.in-Some.line.now c.in-Some.behind.now c.lines.invariant.walk c.in-Some.ensures.lines c.in-Some.ensures.first).is_text

pub body_at-requires-clause-behind : goal.body_at-requires-clause-behind
body_at-requires-clause-behind c =
    (walk-next c.lines.left.now c.lines.others.now c.in-Some.line.now c.in-Some.behind.now c.lines.invariant.walk c.in-Some.ensures.lines c.in-Some.ensures.first).is_text

pub returns-in-Field-clause-walk : goal.returns-in-Field-clause-walk
returns-in-Field-clause-walk c =
    let next = walk-next c.lines.left.now c.lines.others.now c.in-Some.line.now c.in-Some.behind.now c.lines.invariant.walk c.in-Some.ensures.lines c.in-Some.ensures.first in
    walk-behind c.lines.left.now c.lines.others.now c.in-Some.line.now c.in-Some.behind.now c.loose_behind-rest.result.now next c.loose_behind-rest.ensures

pub returns-in-Field-clause-field : goal.returns-in-Field-clause-field
returns-in-Field-clause-field c =
    c.lines.invariant.told ∙ bodies-field c.lines.left.now c.in-Some.line.now c.in-Some.behind.now c.in-Field.n c.in-Some.ensures.lines (sym c.kind_of.ensures.kind ∙ c.in-Field.is)
    ∙ ap₂ (λ (x y : List ℕ). (x, y) ∷ bodies_in c.in-Some.behind.now) (sym c.split_at.ensures.front) (sym c.body_at.ensures)

pub lines-preserved : goal.lines-preserved
lines-preserved c =
    let next = walk-next c.lines.left.now c.lines.others.now c.in-Some.line.now c.in-Some.behind.now c.lines.invariant.walk c.in-Some.ensures.lines c.in-Some.ensures.first in
    record {
      walk = walk-behind c.lines.left.now c.lines.others.now c.in-Some.line.now c.in-Some.behind.now c.loose_behind-rest.result.now next c.loose_behind-rest.ensures;
      told = c.lines.invariant.told ∙ bodies-none c.lines.left.now c.in-Some.line.now c.in-Some.behind.now c.kind_of.result c.in-Some.ensures.lines (sym c.kind_of.ensures.kind) c.in_default-kind_of.not-Field;
      shorter = omega (arith, c.in-Some.ensures.less, c.lines.invariant.shorter);
    }
