use Rattle.std.proofs.Common.{rules, of_calls}
use Rattle.std.proofs.lemmas.Fn.{always_returns_same}
use Rattle.std.specs.Ordering.{is_lt}
use Rattle.ctl_store.specs.Keys.{key_cmp}
use Rattle.ctl_policy.proofs.KeyLemmas.{parted, below_is}
use Rattle.ctl_policy.proofs.keys.below.Goals as goal

pub returns-clause-place : goal.returns-clause-place
returns-clause-place c =
    let k = c.args.key in
    let xs = c.args.keys.now in
    let point = c.partition_point.ensures.partitioned (λ x. is_lt (key_cmp x k)) (always_returns_same _ _ _ (λ a r f h. search (rules, of_calls))) (parted k xs c.requires) in
    below_is k xs c.partition_point.result (search rules) point
