use Rattle.ctl_relation.proofs.MarkLemmas.{first-is}
use Rattle.ctl_relation.proofs.marks.first_field.Goals as goal

pub returns : goal.returns
returns c = λ field rest is ordered.
    first-is c.args.marks.now c.split_at.result.0.now c.split_at.result.1.now c.counts_of-counts.result c.split_at-2.result.0 c.split_at-2.result.1 c.split_at-3.result.0 c.split_at-3.result.1 field rest
    c.split_at.ensures.front c.split_at.ensures.back c.counts_of-counts.ensures c.split_at-2.ensures.front c.split_at-2.ensures.back c.split_at-3.ensures.front c.split_at-3.ensures.back is ordered
