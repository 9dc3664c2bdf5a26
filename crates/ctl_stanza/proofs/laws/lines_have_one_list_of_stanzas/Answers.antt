use Rattle.ctl_stanza.proofs.OneListLemmas.{one_list_of_stanzas}
use Rattle.ctl_stanza.proofs.laws.lines_have_one_list_of_stanzas.Goals as goal

pub returns : goal.returns
returns c = one_list_of_stanzas
