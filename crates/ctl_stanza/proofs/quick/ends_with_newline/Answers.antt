use Rattle.ctl_stanza.proofs.QuickLemmas.{ends-text}
use Rattle.ctl_stanza.proofs.quick.ends_with_newline.Goals as goal

pub returns-in-len1-up : goal.returns-in-len1-up
returns-in-len1-up c = λ is. ends-text c.args.text.now c.in-len1-up.len_at_least is
