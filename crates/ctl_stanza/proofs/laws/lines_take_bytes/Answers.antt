use Rattle.ctl_stanza.proofs.SoundLemmas.{lines_take_bytes}
use Rattle.ctl_stanza.proofs.laws.lines_take_bytes.Goals as goal

pub returns : goal.returns
returns c text = lines_take_bytes text
