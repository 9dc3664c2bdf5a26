use Rattle.std.proofs.Common.{◌<◌, ℕ, List, [], length, Bor, arith}
use Rattle.std.proofs.lemmas.List.{get_or-map, length-map}
use Rattle.ctl_stanza.specs.Lines.{lent_lines}
use Rattle.ctl_stanza.proofs.FieldLemmas.{text-go}
use Rattle.ctl_stanza.proofs.lines.text_of_lines.Goals as goal

abbrev now : Bor (List ℕ) → List ℕ
now x = x.now

pub loop-i-preserved : goal.loop-i-preserved
loop-i-preserved c =
    let lines = lent_lines c.args.lines.now in
    let i = c.loop-i.i in
    let lt : i < length lines = omega (arith, length-map c.args.lines.now now) in
    let here = get_or-map now c.args.lines.now i (record { ref_ptr = (0, 0); now = [] }) [] c.loop-i-test.true in
    text-go lines _ c.loop-i.text.items _ _ _ i lt here c.in_ok-extend_from_slice.ensures.items c.in_ok-push.ensures.items c.loop-i.invariant
