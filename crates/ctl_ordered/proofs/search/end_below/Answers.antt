use Rattle.std.proofs.Common.{rules, of_calls}
use Rattle.std.proofs.lemmas.Fn.{always_returns_same}
use Rattle.std.specs.Ordering.{is_lt}
use Rattle.ctl_ordered.specs.Ordered.{order_at}
use Rattle.ctl_ordered.proofs.OrderLemmas.{key_order, parted}
use Rattle.ctl_ordered.proofs.search.end_below.Goals as goal

pub returns-clause-point : goal.returns-clause-point
returns-clause-point g c =
    let q = g.Q.Wanted.wanted c.args.wanted in
    let o = key_order g.met.K.Eq.laws g.met.K.Ord.total g.met.K.Ord.matches_eq in
    c.partition_point.ensures.partitioned (λ s. is_lt (order_at g.K.Ord.cmp c.args.slots.now.entries q s)) (always_returns_same _ _ _ (λ a r f k. search (rules, of_calls)))
    (parted o c.args.slots.now.entries c.args.order.now.items c.requires.0 c.requires.1 q)
