use Rattle.std.proofs.Common.{rules, ◌≡◌, ◌==◌, true, false, length, inl}
use Rattle.ctl_filter.proofs.ReadsLemmas.{truth-read, words-left, none-read}
use Rattle.ctl_filter.proofs.reading.steps_of.Goals as goal

pub returns-then-is_empty : goal.returns-then-is_empty
returns-then-is_empty c =
    let all : (length c.in-Ok.rest.now == 0) ≡ true = search (rules, c.is_empty.ensures, c.if-is_empty.true) in
    truth-read c.args.tokens.now c.in-Ok.rest.now _ c.read_pred.new.out.items c.in-Ok.ensures.read c.new-steps.ensures.items all

pub returns-in-Ok : goal.returns-in-Ok
returns-in-Ok c =
    let some : (length c.in-Ok.rest.now == 0) ≡ false = search (rules, c.is_empty.ensures, c.if-is_empty.false) in
    inl (words-left c.args.tokens.now c.in-Ok.rest.now _ c.read_pred.new.out.items c.in-Ok.ensures.read c.in-Ok.ensures.ends some)

pub returns-in-Err-Form : goal.returns-in-Err-Form
returns-in-Err-Form c = inl (none-read c.args.tokens.now (c.in-Err-Form.ensures.refused c.in-Err-Form.field-0-is))
