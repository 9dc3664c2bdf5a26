use Rattle.ctl_stanza.proofs.RecordRunLemmas.{reads_or_tells}
use Rattle.ctl_stanza.proofs.laws.told_record_fault_is_least.Goals as goal

pub returns : goal.returns
returns c n text = reads_or_tells n text
