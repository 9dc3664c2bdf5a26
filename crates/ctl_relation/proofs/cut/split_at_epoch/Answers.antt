use Rattle.std.proofs.Common.{sym, arith}
use Rattle.ctl_relation.proofs.EpochLemmas.{no_epoch, epoch_at}
use Rattle.ctl_relation.proofs.cut.split_at_epoch.Goals as goal

pub returns-then-len-text : goal.returns-then-len-text
returns-then-len-text c =
    sym (no_epoch c.args.text.now c.digits_len-len.result c.requires c.digits_len-len.ensures.len (λ less. absurd (omega (arith, less, c.if-len-text.true))))

pub returns-then-text-len-ne58 : goal.returns-then-text-len-ne58
returns-then-text-len-ne58 c =
    sym (no_epoch c.args.text.now c.digits_len-len.result c.requires c.digits_len-len.ensures.len (λ less. c.if-text-len-ne58.true))

pub returns : goal.returns
returns c =
    rw (c.split_at-2.ensures.back, c.split_at.ensures.back, c.split_at.ensures.front)
    (sym (epoch_at c.args.text.now c.digits_len-len.result c.digits_len-len.ensures.len (omega (arith, c.if-len-text.false, c.digits_len-len.ensures.within)) c.if-text-len-ne58.false))
