use Rattle.ctl_stanza.proofs.RunLemmas.{reads_stanzas}
use Rattle.ctl_stanza.proofs.laws.stanzas_are_runs.Goals as goal

pub returns : goal.returns
returns c kind n text = reads_stanzas kind n text
