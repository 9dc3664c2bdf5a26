use Rattle.std.proofs.Common.{◌^◌, arith}
use Rattle.ctl_relation.proofs.PlaceLemmas.{rise-length, are-held-behind}
use Rattle.ctl_relation.proofs.groups.GroupsIterator.next.Goals as goal

pub new-requires-clause-few : goal.new-requires-clause-few
new-requires-clause-few c =
    omega (arith, c.split_at.ensures.front_len, c.count_before.ensures.within, rise-length 0 (2 ^ 32) c.self.inside.further.now c.self.invariant.further_rise)

pub invariant_of-self : goal.invariant_of-self
invariant_of-self c =
    let g = c.self.inside in
    are-held-behind g.kind g.body.now c.in_ok-start.start.now c.count_before.result c.in_ok-start.starts.now g.starts.now g.further.now _ c.in_ok-start.ensures.cases.0 c.split_at.ensures.back c.self.invariant
