use Rattle.std.proofs.Common.{rules}
use Rattle.ctl_session.proofs.Written.{appends_more}
use Rattle.ctl_session.proofs.sink.write_whole.Goals as goal

pub loop-at-preserved : goal.loop-at-preserved
loop-at-preserved g c = record {
  within = search rules;
  written = appends_more _ _ _ c.args.text.now c.loop-at.at c.in-Ok.n c.loop-at.invariant.written c.in-Ok.ensures.bytes;
  kept = cc (c.in-Ok.ensures.failed, c.loop-at.invariant.kept);
}
