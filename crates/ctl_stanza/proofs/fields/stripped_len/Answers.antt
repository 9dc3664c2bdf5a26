use Rattle.std.proofs.Common.{◌≡◌, ◌∙◌, ◌+◌, ◌-◌, suc, take, ap, sym, arith}
use Rattle.ctl_stanza.proofs.FieldLemmas.{strip_end-at, strip_end-none}
use Rattle.ctl_stanza.proofs.fields.stripped_len.Goals as goal

pub returns-then-not-is_blank_byte-clause-text : goal.returns-then-not-is_blank_byte-clause-text
returns-then-not-is_blank_byte-clause-text c =
    let i = c.loop-i.i - 1 in
    let next : i + 1 ≡ suc i = omega arith in
    ap (λ n. take n c.args.text.now) next
    ∙ sym (strip_end-at c.args.text.now i (omega arith) (sym c.is_blank_byte.ensures ∙ c.if-not-is_blank_byte.true) (λ k less more. c.loop-i.invariant k (omega arith) more))

pub returns-clause-text : goal.returns-clause-text
returns-clause-text c = sym (strip_end-none c.args.text.now (λ k lt. c.loop-i.invariant k (omega arith) lt))
