use Rattle.std.proofs.Common.{◌∙◌, ◌+◌, ◌||◌, refl, take, sym, ap, ap₂, arith}
use Rattle.ctl_stanza.specs.Lines.{lines_of}
use Rattle.ctl_stanza.specs.LineKind.{kind_of}
use Rattle.ctl_stanza.specs.Faults.{gives_name, body_step, cause_of}
use Rattle.ctl_stanza.specs.declared.repeats.Repeats.TheVariants.{Never}
use Rattle.std.proofs.lemmas.Bool.{ne_eqb}
use Rattle.ctl_stanza.proofs.FaultLemmas.{cause-is, has_name-next, body_len-next}
use Rattle.ctl_stanza.proofs.PieceLemmas.{StartsGap, gap-none, gap-blank}
use Rattle.ctl_stanza.proofs.WalkLemmas.{text-behind}
use Rattle.ctl_stanza.proofs.QuickLemmas.{next-is, blank-is, not-blank, reached-next, end-if, names-if}
use Rattle.ctl_stanza.proofs.quick.accept_stanza.Goals as goal
use Rattle.ctl_stanza.proofs.quick.accept_stanza.Goals.{in-Some+in-Blank, in_default}

pub returns-clause-accepted : goal.returns-clause-accepted
returns-clause-accepted c =
    let left = c.lines.left.now in
    let gap : StartsGap (lines_of left) = elim c.match-take_line.branch [
      | in-Some+in-Blank w ↦ gap-blank (lines_of left) _ w.in-Some.line.now w.in-Some.ensures.lines (blank-is w.in-Some.line.now (sym w.kind_of-kind.ensures.kind ∙ w.in-Blank.is))
      | in_default w ↦ gap-none left w.in_default.ensures.none
    ] in
    end-if c.args.text.now left c.lines.count c.lines.fields.items c.cut_off.result c.lines.invariant.reached gap c.cut_off.ensures.cut

pub returns-clause-names : goal.returns-clause-names
returns-clause-names c =
    names-if c.args.text.now c.lines.left.now c.lines.count _ c.lines.fields.items c.cut_off.result c.lines.invariant.reached
    (λ name given. c.slots.ensures name (c.lines.invariant.names name ∙ given)) c.cut_off.ensures.cut c.cut_off.ensures.names

pub add_field-requires-clause-text : goal.add_field-requires-clause-text
add_field-requires-clause-text c =
    (text-behind c.lines.left.now c.in-Some.line.now c.in-Some.behind.now c.lines.invariant.reached.is_text c.in-Some.ensures.lines c.in-Some.ensures.first).1

pub lines-preserved : goal.lines-preserved
lines-preserved c =
    let lines = lines_of c.args.text.now in
    let i = c.lines.count in
    let inv = c.lines.invariant in
    let line = c.in-Some.line.now in
    let next = next-is lines i line (lines_of c.in-Some.behind.now) (inv.reached.left_is ∙ c.in-Some.ensures.lines) in
    let kind = c.kind_of-kind.ensures.kind in
    let none = c.in_ok-found.ensures.cause in
    let cause = cause-is Never lines _ i _ _ _ _ _ next.below inv.names inv.body inv.none next.here kind none in
    let is_none = c.in_default-found.is in
    let kind_here = kind ∙ ap kind_of (sym next.here) in
    record {
      reached = reached-next c.args.text.now c.lines.left.now _ c.lines.fields.items _ inv.reached refl c.in-Some.ensures.lines c.in-Some.ensures.first c.in-Some.ensures.one_line
          (not-blank line (λ e. c.in_default-kind.not-Blank (kind ∙ e))) (ap (cause_of Never (take i lines)) (sym next.here) ∙ sym cause ∙ is_none)
          (c.in_ok-add_field.ensures c.if-not-branch.false);
      within = omega (arith, inv.within, c.in-Some.ensures.less);
      names = λ other. c.in_ok-found.ensures.names is_none other
          ∙ ap₂ ◌||◌ (ap₂ (λ k l. gives_name k l other) kind_here (sym next.here)) (inv.names other) ∙ sym (has_name-next lines i (i + 1) other refl next.below);
      body = c.in_ok-found.ensures.body is_none ∙ ap (body_step c.lines.seen.body_len _) kind
          ∙ ap₂ (λ n l. body_step n l (kind_of l)) inv.body (sym next.here) ∙ sym (body_len-next lines i (i + 1) refl next.below);
      short = c.in_ok-found.ensures.within is_none;
      none = c.in_ok-found.ensures.some is_none ∙ sym (ne_eqb (i + 1) 0 (λ e. omega (arith, e)));
    }
