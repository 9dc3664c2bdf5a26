use Rattle.ctl_stanza.proofs.FieldOrderLemmas.{fields_rise}
use Rattle.ctl_stanza.proofs.laws.fields_stand_in_order.Goals as goal

pub returns : goal.returns
returns c stanza = fields_rise stanza
