use Rattle.std.proofs.Common.{sym, ◌∙◌, arith}
use Rattle.std.proofs.lemmas.List.Sums.{prefix_len_is}
use Rattle.ctl_stanza.specs.Lines.{is_blank_byte}
use Rattle.ctl_stanza.proofs.fields.blank_len.Goals as goal

pub returns-then-not-is_blank_byte-clause-len : goal.returns-then-not-is_blank_byte-clause-len
returns-then-not-is_blank_byte-clause-len c =
    sym (prefix_len_is is_blank_byte c.args.text.now c.loop-i.i 0 (omega arith) c.loop-i.invariant (λ _. sym c.is_blank_byte.ensures ∙ c.if-not-is_blank_byte.true))

pub returns-clause-len : goal.returns-clause-len
returns-clause-len c = sym (prefix_len_is is_blank_byte c.args.text.now _ 0 (omega arith) (λ k h. c.loop-i.invariant k (omega arith)) (λ h. absurd (omega arith)))
