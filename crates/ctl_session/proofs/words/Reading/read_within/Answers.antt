use Rattle.std.proofs.Common.{◌∙◌, ◌++◌, ◌∷◌, [], ap, sym}
use Rattle.ctl_session.proofs.WordLemmas.{ends_word, goes_on, is_no_quote}
use Rattle.ctl_session.proofs.words.Reading.read_within.Goals as goal

pub returns-then-is_blank : goal.returns-then-is_blank
returns-then-is_blank c = λ text.
    ends_word c.args.self.now.place c.args.self.now.words.items c.push.new.self.items c.args.self.now.word.items c.args.self.now.word.items c.args.byte text
    c.requires (sym c.is_blank.ensures ∙ c.if-is_blank.true)
    (c.in_ok-push.ensures.items ∙ ap (λ word. c.args.self.now.words.items ++ word ∷ []) (c.in_ok-from_slice.ensures ∙ c.deref.ensures.value))

pub returns : goal.returns
returns c = λ text.
    goes_on c.args.self.now.place c.args.self.now.words.items c.args.self.now.word.items c.push-2.new.self.items c.args.byte text
    c.requires (sym c.is_blank.ensures ∙ c.if-is_blank.false) (is_no_quote _ c.if-byte-eq39.false) c.in_ok-push-2.ensures.items
