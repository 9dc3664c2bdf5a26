use Rattle.ctl_stanza.proofs.BodyLemmas.{counted}
use Rattle.ctl_stanza.proofs.laws.bodies_are_counted.Goals as goal

pub returns : goal.returns
returns c = counted
