use Rattle.ctl_index.proofs.FitLemmas.{numbers_are_few}
use Rattle.ctl_index.proofs.counting.numbers_fit.Goals as goal

pub returns : goal.returns
returns c = numbers_are_few c.whole_stanzas_are_sound.ensures c.met_pairs_are_bounded.ensures.most
