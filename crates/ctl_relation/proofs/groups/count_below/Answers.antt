use Rattle.std.proofs.Common.{sym, nat_lt, arith, rules}
use Rattle.std.proofs.lemmas.List.Sums.{prefix_len_is}
use Rattle.std.proofs.lemmas.List.Sorted.{IsPartitionPoint-from_clause, IsPartitionedBy-ltb}
use Rattle.ctl_relation.proofs.PlaceLemmas.{rise-sorted}
use Rattle.ctl_relation.proofs.groups.count_below.Goals as goal

pub returns-clause-count : goal.returns-clause-count
returns-clause-count c =
    let places = c.args.places.now in
    let bound = c.args.bound in
    let parted = IsPartitionedBy-ltb (λ p. p) places bound (rise-sorted 0 _ places c.requires) in
    let point = IsPartitionPoint-from_clause (λ p. nat_lt p bound) _ _ c.partition_point.ensures.partitioned parted (λ a r q k. search rules) in
    sym (prefix_len_is (λ p. nat_lt p bound) places c.partition_point.result 0 c.partition_point.ensures.bound
    (λ k lt. point.0 k 0 (omega arith) lt)
    (λ lt. point.1 c.partition_point.result 0 (omega arith) lt))
