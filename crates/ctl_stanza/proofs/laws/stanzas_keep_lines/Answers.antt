use Rattle.ctl_stanza.proofs.KeepLemmas.{keeps_lines}
use Rattle.ctl_stanza.proofs.laws.stanzas_keep_lines.Goals as goal

pub returns : goal.returns
returns c kind n text = keeps_lines kind n text
