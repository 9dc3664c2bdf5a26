use Rattle.ctl_session.proofs.LineLemmas.{skipped}
use Rattle.ctl_session.proofs.read_ahead.ReadAhead.skip.Goals as goal

pub returns : goal.returns
returns c = skipped c.self.inside.part.items c.args.self.now c.self.inside.start c.self.inside.end c.args.count c.self.view_is c.self.invariant.0 c.requires
