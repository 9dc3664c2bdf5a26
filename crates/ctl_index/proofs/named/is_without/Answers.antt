use Rattle.ctl_index.proofs.RowLemmas.{bare_is}
use Rattle.ctl_index.proofs.named.is_without.Goals as goal

pub returns : goal.returns
returns c = bare_is c.is_empty.result c.args.rows.now c.is_empty.ensures.none c.is_empty.ensures.some
