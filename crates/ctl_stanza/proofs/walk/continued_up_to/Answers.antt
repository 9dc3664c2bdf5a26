use Rattle.std.proofs.Common.{◌∙◌, sym, arith}
use Rattle.ctl_stanza.proofs.WalkLemmas.{text-behind, continued-first, continued-room}
use Rattle.ctl_stanza.proofs.walk.continued_up_to.Goals as goal

pub overflow_add-len-in-lines : goal.overflow_add-len-in-lines
overflow_add-len-in-lines c =
    omega (arith, c.lines.invariant.told, continued-first c.lines.left.now c.in-Some.line.now c.in-Some.behind.now c.in-Some.ensures.lines (sym c.continues.ensures ∙ c.if-not-continues.false), continued-room c.args.text.now c.requires)

pub lines-preserved : goal.lines-preserved
lines-preserved c = record {
  is_text = (text-behind c.lines.left.now c.in-Some.line.now c.in-Some.behind.now c.lines.invariant.is_text c.in-Some.ensures.lines c.in-Some.ensures.first).1;
  told = omega (arith, c.lines.invariant.told, continued-first c.lines.left.now c.in-Some.line.now c.in-Some.behind.now c.in-Some.ensures.lines (sym c.continues.ensures ∙ c.if-not-continues.false));
}
