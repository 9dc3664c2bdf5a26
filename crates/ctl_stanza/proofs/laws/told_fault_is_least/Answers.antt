use Rattle.ctl_stanza.proofs.LawLemmas.{reads_or_tells}
use Rattle.ctl_stanza.proofs.laws.told_fault_is_least.Goals as goal

pub returns : goal.returns
returns c kind n text = reads_or_tells kind n text
