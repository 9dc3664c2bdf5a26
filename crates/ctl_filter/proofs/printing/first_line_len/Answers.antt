use Rattle.std.proofs.Common.{sym, arith}
use Rattle.std.proofs.lemmas.List.Sums.{prefix_len_is}
use Rattle.ctl_filter.specs.Grep.{is_in_line}
use Rattle.ctl_filter.proofs.printing.first_line_len.Goals as goal

pub returns-then-byte-eq10-clause-len : goal.returns-then-byte-eq10-clause-len
returns-then-byte-eq10-clause-len c =
    sym (prefix_len_is is_in_line c.args.body.now c.loop-i.i 0 (omega arith) c.loop-i.invariant (λ _. rw c.if-byte-eq10.true))

pub returns-clause-len : goal.returns-clause-len
returns-clause-len c = sym (prefix_len_is is_in_line c.args.body.now _ 0 (omega arith) (λ k h. c.loop-i.invariant k (omega arith)) (λ h. absurd (omega arith)))
