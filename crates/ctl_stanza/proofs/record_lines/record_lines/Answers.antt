use Rattle.std.proofs.Common.{◌∙◌, length, sym, ap, arith}
use Rattle.ctl_stanza.specs.declared.record_lines.RecordLines.{RecordLines}
use Rattle.ctl_stanza.proofs.RecordLemmas.{kept-skip, kept-add, kept-lines, kept-numbers}
use Rattle.ctl_stanza.proofs.record_lines.record_lines.Goals as goal
use Rattle.ctl_stanza.proofs.record_lines.record_lines.Goals.{then-not-is_comment+in_ok-add, else-not-is_comment}

pub lines-preserved : goal.lines-preserved
lines-preserved c =
    let here = c.in-Some.ensures in
    record {
      within = omega (arith, ap length here.lines, c.lines.invariant.within);
      kept = elim c.if-not-is_comment.branch [
        | then-not-is_comment+in_ok-add w ↦
            kept-add c.lines.kept.text.items c.lines.kept.numbers.items _ _ c.lines.number c.in-Some.line.now c.lines.left.now c.in-Some.behind.now _ here.lines here.one_line
            (sym c.is_comment.ensures ∙ w.if-not-is_comment.true)
            (ap (λ (k : RecordLines). k.text.items) w.kept-is ∙ w.in_ok-add.ensures.text) (ap (λ (k : RecordLines). k.numbers.items) w.kept-is ∙ w.in_ok-add.ensures.number) c.lines.invariant.kept
        | else-not-is_comment w ↦
            rw w.kept-is
            (kept-skip c.lines.kept.text.items c.lines.kept.numbers.items c.lines.number c.in-Some.line.now c.lines.left.now c.in-Some.behind.now _ here.lines
            (sym c.is_comment.ensures ∙ w.if-not-is_comment.false) c.lines.invariant.kept)
      ];
    }

pub returns-clause-lines : goal.returns-clause-lines
returns-clause-lines c = kept-lines c.lines.kept.text.items c.lines.kept.numbers.items c.lines.number c.lines.left.now _ c.in_default.ensures.none c.lines.invariant.kept

pub returns-clause-numbers : goal.returns-clause-numbers
returns-clause-numbers c = kept-numbers c.lines.kept.text.items c.lines.kept.numbers.items c.lines.number c.lines.left.now _ c.in_default.ensures.none c.lines.invariant.kept
