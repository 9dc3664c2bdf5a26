use Rattle.std.proofs.Common.{◌≡◌, ◌∙◌, ◌+◌, ◌<◌, ◌∷◌, [], length, sym, ap, arith, vec_len}
use Rattle.std.proofs.lemmas.Bool.{eqb-false}
use Rattle.std.proofs.lemmas.List.{length-append}
use Rattle.ctl_stanza.specs.Lines.{lines_of, lent_lines}
use Rattle.ctl_stanza.proofs.PieceLemmas.{are_lines, taken, gap-none, gap-blank, told-next, other-next, single-next}
use Rattle.ctl_stanza.proofs.reading.take_piece.Goals as goal

pub returns-in_default-clause-no_newline : goal.returns-in_default-clause-no_newline
returns-in_default-clause-no_newline c = are_lines (lent_lines c.lines.lines.items) c.lines.invariant.single

pub returns-in_default-clause-first : goal.returns-in_default-clause-first
returns-in_default-clause-first c =
    let some : 0 < length c.lines.lines.items = omega (arith, c.lines.invariant.some, ap length c.in_default.ensures.none) in
    taken c.lines.lines.items (lines_of c.args.text.now) (lines_of c.lines.left.now) c.lines.invariant.told some c.lines.invariant.other
    (gap-none c.lines.left.now c.in_default.ensures.none)

pub returns-then-not-is_empty-clause-no_newline : goal.returns-then-not-is_empty-clause-no_newline
returns-then-not-is_empty-clause-no_newline c = are_lines (lent_lines c.lines.lines.items) c.lines.invariant.single

pub returns-then-not-is_empty-clause-first : goal.returns-then-not-is_empty-clause-first
returns-then-not-is_empty-clause-first c =
    let some : 0 < length c.lines.lines.items = omega (arith, eqb-false (vec_len c.lines.lines) 0 (sym c.is_empty.ensures ∙ c.if-not-is_empty.true)) in
    taken c.lines.lines.items (lines_of c.args.text.now) (lines_of c.lines.left.now) c.lines.invariant.told some c.lines.invariant.other
    (gap-blank (lines_of c.lines.left.now) _ c.in-Some.line.now c.in-Some.ensures.lines (sym c.is_blank-is_gap.ensures ∙ c.if-is_gap.true))

pub lines-preserved : goal.lines-preserved
lines-preserved c =
    let l = c.lines in
    let items = c.in_ok-push.ensures.items in
    let size : length c.push.new.self.items ≡ length l.lines.items + 1 = ap length items ∙ length-append l.lines.items (c.in-Some.line ∷ []) in
    record {
      some = omega (arith, size);
      within = omega (arith, size, l.invariant.within, c.in-Some.ensures.less);
      told = told-next (lines_of c.args.text.now) (lines_of l.left.now) _ l.lines.items _ c.in-Some.line items c.in-Some.ensures.lines l.invariant.told;
      other = other-next l.lines.items _ c.in-Some.line items l.invariant.other (sym c.is_blank-is_gap.ensures ∙ c.if-is_gap-2.false);
      single = single-next l.lines.items _ c.in-Some.line items l.invariant.single c.in-Some.ensures.one_line;
    }
