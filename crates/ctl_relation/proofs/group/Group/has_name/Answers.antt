use Rattle.std.proofs.lemmas.List.Elements.{All-tail}
use Rattle.ctl_relation.specs.Inside.HeldPlaces.{HasAtom}
use Rattle.ctl_relation.proofs.group.Group.has_name.Goals as goal

pub is_named_among-requires : goal.is_named_among-requires
is_named_among-requires c =
    let g = c.self.inside in
    All-tail (HasAtom g.kind g.body.now) g.first g.further.now c.self.invariant.0
