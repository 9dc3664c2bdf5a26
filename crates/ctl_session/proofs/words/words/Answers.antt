use Rattle.ctl_session.proofs.WordLemmas.{nothing_read}
use Rattle.ctl_session.proofs.words.words.Goals as goal

pub bytes-init : goal.bytes-init
bytes-init c = nothing_read c.new.result.items c.new-2.result.items c.args.text.now c.new.ensures.items
