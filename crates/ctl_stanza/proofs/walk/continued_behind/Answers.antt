use Rattle.std.proofs.Common.{arith}
use Rattle.ctl_stanza.proofs.WalkLemmas.{continued-room}
use Rattle.ctl_stanza.proofs.walk.continued_behind.Goals as goal

pub unreachable-requires : goal.unreachable-requires
unreachable-requires c = omega (arith, c.in-None.ensures.more, continued-room c.args.text.now c.requires)
