use Rattle.std.proofs.Common.{◌≡◌, ◌∙◌, ◌<◌, ◌+◌, ◌||◌, ℕ, List, [], length, Bor, sym, ap, ap₂, refl, arith}
use Rattle.std.proofs.lemmas.List.{get_or-map, length-map}
use Rattle.ctl_stanza.specs.Lines.{lent_lines}
use Rattle.ctl_stanza.specs.LineKind.{kind_of}
use Rattle.ctl_stanza.specs.Faults.{gives_name, body_step}
use Rattle.std.proofs.lemmas.Bool.{ne_eqb}
use Rattle.ctl_stanza.proofs.FaultLemmas.{cause-is, turn-fault, turn-good, has_name-next, body_len-next}
use Rattle.ctl_stanza.proofs.line_faults.first_fault.Goals as goal

abbrev now : Bor (List ℕ) → List ℕ
now x = x.now

pub returns-in-Some-clause-fault : goal.returns-in-Some-clause-fault
returns-in-Some-clause-fault c =
    let lines = lent_lines c.args.lines.now in
    let i = c.loop-i.i in
    let lt : i < length lines = omega (arith, length-map c.args.lines.now now) in
    let here = get_or-map now c.args.lines.now i _ [] c.loop-i-test.true in
    let cause = cause-is c.args.repeats lines _ i _ _ _ _ _ lt c.loop-i.invariant.names c.loop-i.invariant.body c.loop-i.invariant.none here c.kind_of.ensures.kind c.in_ok-found.ensures.cause in
    sym (c.loop-i.invariant.told ∙ turn-fault c.args.repeats lines (c.args.first_line + i) i c.in-Some.cause lt (sym cause ∙ c.in-Some.is))

pub loop-i-preserved : goal.loop-i-preserved
loop-i-preserved c =
    let lines = lent_lines c.args.lines.now in
    let i = c.loop-i.i in
    let lt : i < length lines = omega (arith, length-map c.args.lines.now now) in
    let here = get_or-map now c.args.lines.now i _ [] c.loop-i-test.true in
    let kind = c.kind_of.ensures.kind ∙ ap kind_of (sym here) in
    let cause = cause-is c.args.repeats lines _ i _ _ _ _ _ lt c.loop-i.invariant.names c.loop-i.invariant.body c.loop-i.invariant.none here c.kind_of.ensures.kind c.in_ok-found.ensures.cause in
    let same : c.args.first_line + (i + 1) ≡ c.args.first_line + i + 1 = omega arith in
    record {
      names = λ other. c.in_ok-found.ensures.names c.in_default.is other
          ∙ ap₂ ◌||◌ (ap₂ (λ k l. gives_name k l other) kind (sym here)) (c.loop-i.invariant.names other) ∙ sym (has_name-next lines i (i + 1) other refl lt);
      body = c.in_ok-found.ensures.body c.in_default.is ∙ ap (body_step c.loop-i.seen.body_len _) c.kind_of.ensures.kind
          ∙ ap₂ (λ n l. body_step n l (kind_of l)) c.loop-i.invariant.body (sym here) ∙ sym (body_len-next lines i (i + 1) refl lt);
      within = c.in_ok-found.ensures.within c.in_default.is;
      none = c.in_ok-found.ensures.some c.in_default.is ∙ sym (ne_eqb (i + 1) 0 (λ e. omega (arith, e)));
      told = c.loop-i.invariant.told ∙ turn-good c.args.repeats lines (c.args.first_line + i) (c.args.first_line + (i + 1)) i (i + 1) refl same lt (sym cause ∙ c.in_default.is);
    }
