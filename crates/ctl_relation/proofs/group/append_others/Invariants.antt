use Rattle.std.proofs.Common.{◌≡◌, ◌++◌, ℕ, take}
use Rattle.std.specs.List.{flat_map}
use Rattle.ctl_relation.specs.Inside.HeldPlaces.{atom_held}
use Rattle.ctl_relation.specs.Printed.{alternative_text}
use Rattle.ctl_relation.proofs.group.append_others.Given as goal

-- what was appended is the text of the atoms so far
abbrev pub invariant-loop-place : goal.invariant-loop-place
invariant-loop-place l = l.out.items ≡ l.initial.out.items ++ flat_map (λ (place : ℕ). alternative_text (atom_held l.kind l.body place)) (take l.place-index l.places)
