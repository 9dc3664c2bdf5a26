use Rattle.std.proofs.Common.{refl, arith, ◌∙◌, ◌≤◌, ◌<◌, length}
use Rattle.ctl_stanza.specs.Lines.{max_line}
use Rattle.ctl_session.proofs.ReadingLemmas.{false_of_not, true_of_not}
use Rattle.ctl_session.proofs.CommandLemmas.{skips_none, stops_skipping, skips_line, skips_last, skips_end, finds_line, line_is_skipped, long_isn't_skipped}
use Rattle.ctl_session.proofs.LineLemmas.{stops_after_same}
use Rattle.ctl_session.proofs.WholeLemmas.{consumes_none}
use Rattle.ctl_session.proofs.script.next_head.Goals as goal

pub returns-then-read-gt-MAX_LINE-clause-ok : goal.returns-then-read-gt-MAX_LINE-clause-ok
returns-then-read-gt-MAX_LINE-clause-ok g c =
    let next = rw c.in-Ok-Some.field-0-is at c.in-Ok-Some.ensures.ok in
    let number = rw c.in-Ok-Some.field-0-is at c.in-Ok-Some.ensures.number in
    let long : max_line < length next.0 = omega (arith, next.1.count) in
    finds_line _ _ _ _ c.lines.lines.number _ _ next.0 _ c.lines.invariant.skips next.1 (long_isn't_skipped next.0 long) number

pub returns-then-not-is_no_command-clause-ok : goal.returns-then-not-is_no_command-clause-ok
returns-then-not-is_no_command-clause-ok g c =
    let next = rw c.in-Ok-Some.field-0-is at c.in-Ok-Some.ensures.ok in
    let number = rw c.in-Ok-Some.field-0-is at c.in-Ok-Some.ensures.number in
    let short : length next.0 ≤ max_line = omega (arith, next.1.count) in
    finds_line _ _ _ _ c.lines.lines.number _ _ next.0 _ c.lines.invariant.skips next.1
    (line_is_skipped next.0 _ _ _ next.1.front c.deref.ensures.value short c.is_no_command.ensures ∙ c.if-not-is_no_command.true) number

pub returns-then-not-read-clause-ok : goal.returns-then-not-read-clause-ok
returns-then-not-read-clause-ok g c =
    let next = rw c.in-Ok-Some.field-0-is at c.in-Ok-Some.ensures.ok in
    let number = rw c.in-Ok-Some.field-0-is at c.in-Ok-Some.ensures.number in
    let short : length next.0 ≤ max_line = omega (arith, next.1.count) in
    skips_last _ _ _ _ c.lines.lines.number _ _ next.0 _ c.lines.invariant.skips next.1 (false_of_not _ c.if-not-read.true)
    (line_is_skipped next.0 _ _ _ next.1.front c.deref.ensures.value short c.is_no_command.ensures ∙ c.if-not-is_no_command.false) number

pub returns-in-Ok-None-clause-ok : goal.returns-in-Ok-None-clause-ok
returns-in-Ok-None-clause-ok g c =
    let takes = rw c.in-Ok-None.field-0-is at c.in-Ok-None.ensures.ok in
    let number = rw c.in-Ok-None.field-0-is at c.in-Ok-None.ensures.number in
    skips_end _ _ _ _ c.lines.lines.number _ c.lines.invariant.skips takes (omega (arith, number))

pub lines-preserved : goal.lines-preserved
lines-preserved g c =
    let next = rw c.in-Ok-Some.field-0-is at c.in-Ok-Some.ensures.ok in
    let number = rw c.in-Ok-Some.field-0-is at c.in-Ok-Some.ensures.number in
    let short : length next.0 ≤ max_line = omega (arith, next.1.count) in
    record {
      room = c.in-Ok-Some.ensures.room;
      failures = c.in-Ok-Some.ensures.failures ∙ c.lines.invariant.failures;
      max = c.in-Ok-Some.ensures.max ∙ c.lines.invariant.max;
      skips = skips_line _ _ _ _ c.lines.lines.number _ _ next.0 _ c.lines.invariant.skips next.1 (true_of_not _ c.if-not-read.false)
          (line_is_skipped next.0 _ _ _ next.1.front c.deref.ensures.value short c.is_no_command.ensures ∙ c.if-not-is_no_command.false) number;
    }

pub lines-init : goal.lines-init
lines-init g c = record {
  room = c.requires;
  failures = refl;
  max = refl;
  skips = skips_none _ _ (consumes_none _);
}

pub returns-in-Err-clause-fault : goal.returns-in-Err-clause-fault
returns-in-Err-clause-fault g c =
    stops_skipping _ _ _ _ c.lines.lines.number _ _ c.lines.invariant.skips (stops_after_same _ _ c.lines.lines.number _ _ c.in-Err.fault c.lines.invariant.max c.in-Err.ensures.fault)
