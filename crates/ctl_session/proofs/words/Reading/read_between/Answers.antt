use Rattle.std.proofs.Common.{◌∙◌, ◌++◌, ◌∷◌, [], ap, sym}
use Rattle.ctl_session.proofs.WordLemmas.{starts_word, starts_quoted, is_quote, is_no_quote}
use Rattle.ctl_session.proofs.words.Reading.read_between.Goals as goal

pub returns-then-byte-eq39 : goal.returns-then-byte-eq39
returns-then-byte-eq39 c = λ text.
    starts_quoted c.args.self.now.place c.args.self.now.words.items c.args.self.now.word.items c.clear.new.self.items c.args.byte text
    c.requires (sym c.is_blank.ensures ∙ c.if-is_blank.false) (is_quote _ c.if-byte-eq39.true) c.clear.ensures.items

pub returns : goal.returns
returns c = λ text.
    starts_word c.args.self.now.place c.args.self.now.words.items c.args.self.now.word.items c.push.new.self.items c.args.byte text
    c.requires (sym c.is_blank.ensures ∙ c.if-is_blank.false) (is_no_quote _ c.if-byte-eq39.false)
    (c.in_ok-push.ensures.items ∙ ap (λ word. word ++ c.args.byte ∷ []) c.clear.ensures.items)
