use Rattle.std.proofs.Common.{◌∙◌, sym}
use Rattle.ctl_session.proofs.WordLemmas.{plain_more, is_no_quote}
use Rattle.ctl_session.proofs.words.plain_len.Goals as goal

pub loop-place-preserved : goal.loop-place-preserved
loop-place-preserved c =
    plain_more c.args.text.now c.loop-place.place _ c.loop-place-test.true (sym c.is_blank.ensures ∙ c.if-is_blank.false, is_no_quote _ c.if-text-place-eq39.false) c.loop-place.invariant
