use Rattle.std.proofs.Common.{arith, refl, sym, ◌∙◌, ◌≤◌, ◌<◌, length, Err}
use Rattle.ctl_store.specs.declared.refusal.Refusal.TheVariants.{TooLong}
use Rattle.ctl_stanza.specs.Lines.{max_line}
use Rattle.ctl_session.specs.State.{cache_state}
use Rattle.ctl_session.proofs.ReadingLemmas.{false_of_not, true_of_not, fits_short}
use Rattle.ctl_session.proofs.CommandLemmas.{stops_with_body, stops_in_body_same, reads_alone, reads_unended, reads_with_body, reads_whole, reads_long, first_long-one, first_long-none, long_opens_nothing, line_opens}
use Rattle.ctl_session.proofs.RequestLemmas.{kept_if_asked}
use Rattle.ctl_session.proofs.script.read_command.Goals as goal

pub returns-then-read-gt-MAX_LINE-clause-ok : goal.returns-then-read-gt-MAX_LINE-clause-ok
returns-then-read-gt-MAX_LINE-clause-ok g c =
    let found = rw c.in-Ok-Some.field-0-is at c.in-Ok-Some.ensures.ok in
    let long : max_line < length found.line = omega (arith, found.takes.count) in
    reads_alone (cache_state c.args.cache.now) _ _ _ c.next_head.new.lines.number _ c.in-Ok-Some.read _ found (long_opens_nothing found.line long) refl (reads_long (cache_state c.args.cache.now) found.line (Err TooLong) long)
    c.none-body.ensures.ended c.none-body.ensures.last
    (c.none-body.ensures.too_long ∙ sym (first_long-one _ found.line long)) c.none-body.ensures.text

pub returns-then-not-has_body-clause-ok : goal.returns-then-not-has_body-clause-ok
returns-then-not-has_body-clause-ok g c =
    let found = rw c.in-Ok-Some.field-0-is at c.in-Ok-Some.ensures.ok in
    let short : length found.line ≤ max_line = omega (arith, found.takes.count) in
    reads_alone (cache_state c.args.cache.now) _ _ _ c.next_head.new.lines.number _ c.in-Ok-Some.read _ found
    (line_opens found.line _ _ _ _ _ found.takes.front c.deref.ensures.value short c.name.ensures c.read-command.ensures c.has_body.ensures ∙ c.if-not-has_body.true) refl
    (reads_whole _ found.line _ _ _ found.takes.front c.deref-2.ensures.value c.read_request-request.ensures)
    c.none-body-then-not-has_body.ensures.ended c.none-body-then-not-has_body.ensures.last
    (c.none-body-then-not-has_body.ensures.too_long ∙ sym (first_long-none _ found.line short)) c.none-body-then-not-has_body.ensures.text

pub returns-then-not-read-clause-ok : goal.returns-then-not-read-clause-ok
returns-then-not-read-clause-ok g c =
    let found = rw c.in-Ok-Some.field-0-is at c.in-Ok-Some.ensures.ok in
    let short : length found.line ≤ max_line = omega (arith, found.takes.count) in
    reads_unended (cache_state c.args.cache.now) _ _ _ c.next_head.new.lines.number _ c.in-Ok-Some.read _ found
    (line_opens found.line _ _ _ _ _ found.takes.front c.deref.ensures.value short c.name.ensures c.read-command.ensures c.has_body.ensures ∙ c.if-not-has_body.false)
    (false_of_not _ c.if-not-read.true) refl
    (reads_whole _ found.line _ _ _ found.takes.front c.deref-2.ensures.value c.read_request-request.ensures)
    c.none-body-then-not-read.ensures.ended c.none-body-then-not-read.ensures.last
    (c.none-body-then-not-read.ensures.too_long ∙ sym (first_long-none _ found.line short)) c.none-body-then-not-read.ensures.text

pub returns-in-Ok-clause-ok : goal.returns-in-Ok-clause-ok
returns-in-Ok-clause-ok g c =
    let found = rw c.in-Ok-Some.field-0-is at c.in-Ok-Some.ensures.ok in
    let short : length found.line ≤ max_line = omega (arith, found.takes.count) in
    reads_with_body (cache_state c.args.cache.now) _ _ _ _ c.next_head.new.lines.number _ _ c.in-Ok-Some.read _ _ found (fits_short found.line short)
    (line_opens found.line _ _ _ _ _ found.takes.front c.deref.ensures.value short c.name.ensures c.read-command.ensures c.has_body.ensures ∙ c.if-not-has_body.false)
    (true_of_not _ c.if-not-read.false)
    (reads_whole _ found.line _ _ _ found.takes.front c.deref-2.ensures.value c.read_request-request.ensures) c.in-Ok.ensures.ok

pub returns-in-Err-read_body-clause-fault : goal.returns-in-Err-read_body-clause-fault
returns-in-Err-read_body-clause-fault g c =
    let found = rw c.in-Ok-Some.field-0-is at c.in-Ok-Some.ensures.ok in
    let short : length found.line ≤ max_line = omega (arith, found.takes.count) in
    stops_with_body _ _ _ _ c.next_head.new.lines.number _ _ c.in-Ok-Some.read _ found
    (line_opens found.line _ _ _ _ _ found.takes.front c.deref.ensures.value short c.name.ensures c.read-command.ensures c.has_body.ensures ∙ c.if-not-has_body.false)
    (true_of_not _ c.if-not-read.false) (stops_in_body_same _ _ c.next_head.new.lines.number _ _ c.in-Err-read_body.fault c.in-Ok-Some.ensures.max c.in-Err-read_body.ensures.fault)

pub returns-in-Ok-clause-kept : goal.returns-in-Ok-clause-kept
returns-in-Ok-clause-kept g c =
    kept_if_asked c.read_request-request.result c.in-Ok.body.text.items c.is_ok.result c.is_ok.ensures.value c.in-Ok.ensures.kept
