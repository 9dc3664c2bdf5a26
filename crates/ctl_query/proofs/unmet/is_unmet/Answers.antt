use Rattle.ctl_query.proofs.UnmetLemmas.{number_tells}
use Rattle.ctl_query.proofs.unmet.is_unmet.Goals as goal

pub returns : goal.returns
returns c = number_tells c.args.asking.now c.args.key c.args.clause.now c.satisfiers.result c.requires.clause c.satisfiers.ensures
