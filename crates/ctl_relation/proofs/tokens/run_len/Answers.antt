use Rattle.std.proofs.Common.{sym, ◌∙◌, arith}
use Rattle.std.proofs.lemmas.List.Sums.{prefix_len_is}
use Rattle.ctl_relation.specs.Inside.ByteClass.{class_has}
use Rattle.ctl_relation.proofs.tokens.run_len.Goals as goal

pub returns-then-not-has-clause-len : goal.returns-then-not-has-clause-len
returns-then-not-has-clause-len c =
    sym (prefix_len_is (class_has c.args.class) c.args.text.now c.loop-i.i 0 (omega arith) c.loop-i.invariant (λ _. sym c.has.ensures ∙ c.if-not-has.true))

pub returns-clause-len : goal.returns-clause-len
returns-clause-len c = sym (prefix_len_is (class_has c.args.class) c.args.text.now _ 0 (omega arith) (λ k h. c.loop-i.invariant k (omega arith)) (λ h. absurd (omega arith)))
