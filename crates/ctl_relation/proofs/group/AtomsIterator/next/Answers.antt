use Rattle.ctl_relation.proofs.PlaceLemmas.{atoms-left, atoms-left-further}
use Rattle.ctl_relation.proofs.group.AtomsIterator.next.Goals as goal

pub invariant_of-self : goal.invariant_of-self
invariant_of-self c =
    let it = c.self.inside in
    atoms-left it.kind it.body.now it.first c.in-Some.first it.further.now c.in-Some.is c.self.invariant

pub invariant_of-self-2 : goal.invariant_of-self-2
invariant_of-self-2 c =
    let it = c.self.inside in
    atoms-left-further it.kind it.body.now it.first c.in_ok-place.place.now it.further.now c.in_ok-place.further.now c.in_default.is c.in_ok-place.ensures.cases.0 c.self.invariant
