use Rattle.std.proofs.Common.{rules, of_calls, arith, ℕ, Option, List, ◌≤◌, length, option_copied}
use Rattle.std.proofs.lemmas.Fn.{always_returns_same}
use Rattle.std.specs.Ordering.{is_lt}
use Rattle.ctl_store.specs.Inside.HeldPins.{own_order}
use Rattle.ctl_store.proofs.OwnLemmas.{own_lower}
use Rattle.ctl_store.proofs.pin_table.place_of.Goals as goal

pub returns-clause-place : goal.returns-clause-place
returns-clause-place c =
    let slots = c.args.settings.now.filled in
    let next = c.args.settings.now.next in
    let order = c.args.order.now.items in
    let q : Option (List ℕ) × ℕ = (option_copied c.args.wanted.0, c.args.wanted.1) in
    let bound : c.partition_point.result ≤ length order = let ok = c.args.order.now.ok in omega (arith, c.partition_point.ensures.bound) in
    own_lower slots next order c.requires q c.partition_point.result bound
    (c.partition_point.ensures.partitioned (λ s. is_lt (own_order slots q s)) (always_returns_same _ _ _ (λ a r f k. search (rules, of_calls))))
