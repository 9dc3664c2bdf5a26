use Rattle.std.proofs.Common.{◌≡◌, false, take}
use Rattle.ctl_relation.specs.Inside.HeldPlaces.{atoms_held}
use Rattle.ctl_relation.specs.Named.{group_names}
use Rattle.ctl_relation.proofs.group.is_named_among.Given as goal

-- none so far has the name
abbrev pub invariant-loop-place : goal.invariant-loop-place
invariant-loop-place l = group_names l.name (atoms_held l.kind l.body (take l.place-index l.places)) ≡ false
