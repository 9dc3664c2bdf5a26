use Rattle.ctl_filter.proofs.AskingLemmas.{clusters-apart}
use Rattle.ctl_filter.proofs.laws.clusters_are_letters.Goals as goal

pub returns : goal.returns
returns c = clusters-apart
