use Rattle.std.proofs.Common.{◌∙◌, sym}
use Rattle.std.proofs.lemmas.Bool.{cond-true, cond-false}
use Rattle.ctl_stanza.proofs.WordLemmas.{by-turns}
use Rattle.ctl_stanza.proofs.status.liveness_by_body.Goals as goal

pub returns-then-not-is_empty : goal.returns-then-not-is_empty
returns-then-not-is_empty c =
    sym (cond-false _ _ _ (sym c.is_empty.ensures ∙ c.if-not-is_empty.true))
    ∙ by-turns c.args.body.now _ _ _ _ _ c.take_word.ensures.behind c.take_word-2.ensures.behind c.take_word-3.ensures.behind c.take_word-3.ensures.word c.take_word-4.ensures.word

pub returns : goal.returns
returns c =
    c.liveness_in.ensures ∙ sym (cond-true _ _ _ (sym c.is_empty.ensures ∙ c.if-not-is_empty.false))
    ∙ by-turns c.args.body.now _ _ _ _ _ c.take_word.ensures.behind c.take_word-2.ensures.behind c.take_word-3.ensures.behind c.take_word-3.ensures.word c.take_word-4.ensures.word
