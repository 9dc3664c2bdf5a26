use Rattle.std.proofs.Common.{refl, sym, ◌∙◌, ap, take}
use Rattle.ctl_session.proofs.LineLemmas.{takes_before, takes_all}
use Rattle.ctl_session.proofs.read_ahead.ReadAhead.take_piece.Goals as goal

pub returns-in-Some-clause-piece : goal.returns-in-Some-clause-piece
returns-in-Some-clause-piece c =
    takes_before c.args.self.now c.rest.result.now (take c.in-Some.at c.rest-in-Some.result.now) c.skip.new.self c.args.line.now.items c.keep.new.line.items _ c.in-Some.at
    c.rest.ensures.value c.in-Some.ensures (ap (take c.in-Some.at) (c.rest-in-Some.ensures.value ∙ sym c.rest.ensures.value)) c.skip.ensures c.keep.ensures.front refl refl

pub returns-in-None-clause-piece : goal.returns-in-None-clause-piece
returns-in-None-clause-piece c =
    takes_all c.args.self.now c.rest.result.now c.rest-rest.result.now c.clear.new.self c.args.line.now.items c.keep-in-None.new.line.items _
    c.rest.ensures.value c.in-None.ensures c.rest-rest.ensures.value c.clear.ensures c.keep-in-None.ensures.front refl refl
