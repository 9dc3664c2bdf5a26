use Rattle.ctl_store.proofs.PrefsFaultLemmas.{reads_prefs_or_tells}
use Rattle.ctl_store.proofs.laws.told_prefs_fault_is_least.Goals as goal

pub returns : goal.returns
returns c n text = reads_prefs_or_tells n text (c.records_are_runs.ensures n text)
