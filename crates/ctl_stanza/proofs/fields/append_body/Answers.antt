use Rattle.std.proofs.Common.{◌∙◌, ◌<◌, ℕ, List, [], length, Bor, sym, arith}
use Rattle.std.proofs.lemmas.List.{get_or-map, length-map}
use Rattle.ctl_stanza.specs.Lines.{lent_lines}
use Rattle.ctl_stanza.proofs.FieldLemmas.{join-stop, join-go}
use Rattle.ctl_stanza.proofs.fields.append_body.Goals as goal

abbrev now : Bor (List ℕ) → List ℕ
now x = x.now

pub returns-then-not-continues : goal.returns-then-not-continues
returns-then-not-continues c =
    let lines = lent_lines c.args.lines.now in
    let i = c.loop-i.i in
    let lt : i < length lines = omega (arith, length-map c.args.lines.now now) in
    let here = get_or-map now c.args.lines.now i (record { ref_ptr = (0, 0); now = [] }) [] c.loop-i-test.true in
    join-stop lines _ c.loop-i.bytes.items _ i lt here (sym c.continues.ensures ∙ c.if-not-continues.true) c.loop-i.invariant

pub loop-i-preserved : goal.loop-i-preserved
loop-i-preserved c =
    let lines = lent_lines c.args.lines.now in
    let i = c.loop-i.i in
    let lt : i < length lines = omega (arith, length-map c.args.lines.now now) in
    let here = get_or-map now c.args.lines.now i (record { ref_ptr = (0, 0); now = [] }) [] c.loop-i-test.true in
    join-go lines _ c.loop-i.bytes.items _ _ _ i lt here (sym c.continues.ensures ∙ c.if-not-continues.false) c.in_ok-push.ensures.items c.in_ok-extend_from_slice-2.ensures.items c.loop-i.invariant
