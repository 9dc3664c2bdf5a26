use Rattle.ctl_store.proofs.FirstLemmas.{sets_first}
use Rattle.ctl_store.proofs.laws.first_setting_counts.Goals as goal

pub returns : goal.returns
returns c n text settings e = sets_first n text settings e
