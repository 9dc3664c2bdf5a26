use Rattle.ctl_store.proofs.SoundLemmas.{kinds_stay}
use Rattle.ctl_store.proofs.laws.kinds_stay.Goals as goal

pub returns : goal.returns
returns c s edit h b = kinds_stay s edit h b
