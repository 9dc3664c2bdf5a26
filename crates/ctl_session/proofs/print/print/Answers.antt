use Rattle.std.proofs.Common.{rules, ◌≡◌, OnErr, subst}
use Rattle.ctl_session.specs.Streams.{WritesPart}
use Rattle.ctl_session.specs.Replies.{text_of_reply}
use Rattle.ctl_session.proofs.print.print.Goals as goal

pub returns-in-Refused-clause-err : goal.returns-in-Refused-clause-err
returns-in-Refused-clause-err g c =
    let same : c.deref.result.now ≡ text_of_reply c.args.reply c.args.out.now = search rules in
    subst (λ t. OnErr c.write_whole-in-Refused.result (WritesPart (g.W.Sink.taken c.args.writer.now) (g.W.Sink.taken c.write_whole-in-Refused.new.writer) t)) same c.write_whole-in-Refused.ensures.err
