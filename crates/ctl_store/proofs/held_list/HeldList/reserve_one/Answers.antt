use Rattle.std.proofs.Common.{length, ap, arith}
use Rattle.ctl_store.specs.Inside.HeldPieces.{joined}
use Rattle.ctl_store.proofs.OrderLemmas.{length-order}
use Rattle.ctl_store.proofs.ListedLemmas.{on_ok_map}
use Rattle.ctl_store.proofs.held_list.HeldList.reserve_one.Goals as goal

pub returns-clause-ok : goal.returns-clause-ok
returns-clause-ok c =
    let s = c.self.inside in
    let as_long = length-order (joined s.slots.pieces) s.next (joined s.order.pieces) c.self.invariant in
    on_ok_map c.reserve_one-2.result
    (λ room. record {
      slot = c.in_ok-reserve_one.ensures.room;
      order = omega (arith, room, as_long, ap (λ ps. length (joined ps)) c.reserve_one.ensures.items, ap (λ ps. length (joined ps)) c.reserve_one-2.ensures.items);
    })
    c.reserve_one-2.ensures.room
