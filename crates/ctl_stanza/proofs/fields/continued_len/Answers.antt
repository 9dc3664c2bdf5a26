use Rattle.std.proofs.Common.{◌∙◌, ◌<◌, ℕ, List, [], length, Bor, sym, arith}
use Rattle.std.proofs.lemmas.List.{get_or-map, length-map}
use Rattle.ctl_stanza.specs.Lines.{lent_lines}
use Rattle.ctl_stanza.proofs.FieldLemmas.{len-stop, len-go}
use Rattle.ctl_stanza.proofs.fields.continued_len.Goals as goal

abbrev now : Bor (List ℕ) → List ℕ
now x = x.now

pub returns-then-not-continues : goal.returns-then-not-continues
returns-then-not-continues c =
    let lines = lent_lines c.args.lines.now in
    let i = c.loop-i.i in
    let lt : i < length lines = omega (arith, length-map c.args.lines.now now) in
    let here = get_or-map now c.args.lines.now i (record { ref_ptr = (0, 0); now = [] }) [] c.loop-i-test.true in
    len-stop lines _ i c.loop-i.len _ lt here (sym c.continues.ensures ∙ c.if-not-continues.true) c.loop-i.invariant

pub overflow_add-len : goal.overflow_add-len
overflow_add-len c =
    let lines = lent_lines c.args.lines.now in
    let i = c.loop-i.i in
    let lt : i < length lines = omega (arith, length-map c.args.lines.now now) in
    let here = get_or-map now c.args.lines.now i (record { ref_ptr = (0, 0); now = [] }) [] c.loop-i-test.true in
    let next = len-go lines _ i c.loop-i.len _ lt here (sym c.continues.ensures ∙ c.if-not-continues.false) c.loop-i.invariant in
    omega (arith, next, c.requires)

pub overflow_add-len-in-loop-i : goal.overflow_add-len-in-loop-i
overflow_add-len-in-loop-i c =
    let lines = lent_lines c.args.lines.now in
    let i = c.loop-i.i in
    let lt : i < length lines = omega (arith, length-map c.args.lines.now now) in
    let here = get_or-map now c.args.lines.now i (record { ref_ptr = (0, 0); now = [] }) [] c.loop-i-test.true in
    let next = len-go lines _ i c.loop-i.len _ lt here (sym c.continues.ensures ∙ c.if-not-continues.false) c.loop-i.invariant in
    omega (arith, next, c.requires)

pub loop-i-preserved : goal.loop-i-preserved
loop-i-preserved c =
    let lines = lent_lines c.args.lines.now in
    let i = c.loop-i.i in
    let lt : i < length lines = omega (arith, length-map c.args.lines.now now) in
    let here = get_or-map now c.args.lines.now i (record { ref_ptr = (0, 0); now = [] }) [] c.loop-i-test.true in
    len-go lines _ i c.loop-i.len _ lt here (sym c.continues.ensures ∙ c.if-not-continues.false) c.loop-i.invariant
