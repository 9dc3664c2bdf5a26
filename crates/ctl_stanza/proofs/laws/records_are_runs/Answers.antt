use Rattle.ctl_stanza.proofs.RecordRunLemmas.{reads_up_to}
use Rattle.ctl_stanza.proofs.laws.records_are_runs.Goals as goal

pub returns : goal.returns
returns c n text = reads_up_to n text
