use Rattle.ctl_stanza.specs.Lines.{lines_of}
use Rattle.ctl_stanza.proofs.FaultlessLemmas.{faultless}
use Rattle.ctl_stanza.proofs.laws.whole_stanzas_are_faultless.Goals as goal

pub returns : goal.returns
returns c content whole = faultless content.kind (lines_of content.text) whole.no_fault
