use Rattle.ctl_stanza.proofs.PairLemmas.{met_fit, own_met_fit}
use Rattle.ctl_stanza.proofs.laws.met_pairs_fit.Goals as goal

pub returns-clause-few : goal.returns-clause-few
returns-clause-few c = met_fit c.whole_stanzas_are_sound.ensures c.met_pairs_are_bounded.ensures.most

pub returns-clause-own : goal.returns-clause-own
returns-clause-own c = own_met_fit c.whole_stanzas_are_sound.ensures c.met_pairs_are_bounded.ensures.most
