use Rattle.std.proofs.Common.{◌≡◌, ◌-◌, ◌+◌, ◌++◌, take, get_or, subst, arith}
use Rattle.ctl_stanza.specs.InParts.{EndsWithNewline, HasNoGapFrom}
use Rattle.ctl_stanza.proofs.ReaderLemmas.{ends_gap, gap-next}
use Rattle.ctl_stanza.proofs.reader.last_gap.Goals as goal
use Rattle.ctl_stanza.proofs.reader.last_gap.Goals.{else-text-i-eq10-via-then-text-i-eq10+else-is_behind_newline, else-text-i-eq10-via-else-text-i-eq10}

pub returns-then-is_behind_newline-clause-gap : goal.returns-then-is_behind_newline-clause-gap
returns-then-is_behind_newline-clause-gap c =
    ends_gap c.args.before.now c.args.text.now (c.loop-i.i - 1) (omega (arith, c.loop-i-test.true, c.loop-i.auto.i)) c.if-text-i-eq10.true (c.is_behind_newline.ensures.newline c.if-is_behind_newline.true)

pub loop-i-preserved : goal.loop-i-preserved
loop-i-preserved c =
    let before = c.args.before.now in
    let text = c.args.text.now in
    let i = c.loop-i.i - 1 in
    let place : c.loop-i.i ≡ i + 1 = omega (arith, c.loop-i-test.true) in
    let other : get_or text i 0 ≡ 10 → EndsWithNewline (before ++ take i text) → ⊥ = elim c.else-text-i-eq10.branch [
      | else-text-i-eq10-via-then-text-i-eq10+else-is_behind_newline w ↦ λ newline ends. w.is_behind_newline.ensures.other w.if-is_behind_newline.false ends
      | else-text-i-eq10-via-else-text-i-eq10 w ↦ λ newline ends. w.if-text-i-eq10.false newline
    ] in
    gap-next before text i (omega (arith, c.loop-i-test.true, c.loop-i.auto.i)) other (subst (HasNoGapFrom before text) place c.loop-i.invariant)
