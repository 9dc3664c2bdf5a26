use Rattle.ctl_filter.proofs.TreeLemmas.{reader-is}
use Rattle.ctl_filter.proofs.laws.filters_have_one_tree.Goals as goal

pub returns : goal.returns
returns c = reader-is
