use Rattle.ctl_query.specs.Anew.{no_lists}
use Rattle.ctl_query.proofs.AddedLemmas.{added_behind}
use Rattle.ctl_query.proofs.laws.lists_anew_are_added.Goals as goal

pub returns : goal.returns
returns c = λ lists. added_behind no_lists lists
