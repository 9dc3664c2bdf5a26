use Rattle.ctl_index.proofs.ToldLemmas.{unmet_is}
use Rattle.ctl_index.proofs.laws.unmet_clauses_have_no_offer.Goals as goal

pub returns : goal.returns
returns c = unmet_is
