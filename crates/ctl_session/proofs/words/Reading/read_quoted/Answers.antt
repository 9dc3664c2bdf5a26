use Rattle.ctl_session.proofs.WordLemmas.{goes_on_quoted, is_no_quote}
use Rattle.ctl_session.proofs.words.Reading.read_quoted.Goals as goal

pub returns : goal.returns
returns c = λ text.
    goes_on_quoted c.args.self.now.place c.args.self.now.words.items c.args.self.now.word.items c.push.new.self.items c.args.byte text
    c.requires (is_no_quote _ c.if-byte-eq39.false) c.in_ok-push.ensures.items
