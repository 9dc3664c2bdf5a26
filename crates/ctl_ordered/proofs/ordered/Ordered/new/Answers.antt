use Rattle.ctl_ordered.proofs.OrderLemmas.{empty_ordered}
use Rattle.ctl_ordered.proofs.ordered.Ordered.new.Goals as goal

pub invariant_of-result : goal.invariant_of-result
invariant_of-result g c = empty_ordered c.new.result.entries c.new-2.result.items c.new.ensures.empty c.new-2.ensures.items
