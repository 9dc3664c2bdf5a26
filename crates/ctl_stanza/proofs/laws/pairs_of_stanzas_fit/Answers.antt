use Rattle.ctl_stanza.proofs.PairLemmas.{pairs_fit}
use Rattle.ctl_stanza.proofs.laws.pairs_of_stanzas_fit.Goals as goal

pub returns : goal.returns
returns c = pairs_fit c.whole_stanzas_are_sound.ensures
