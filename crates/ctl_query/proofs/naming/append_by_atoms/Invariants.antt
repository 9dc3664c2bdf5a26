use Rattle.std.proofs.Common.{◌≡◌, ◌++◌, None, option_map, flat_map, drop}
use Rattle.ctl_policy.specs.Priority.{world_of}
use Rattle.ctl_query.specs.declared.lead_atoms.ListedAtom.{ListedAtom}
use Rattle.ctl_query.specs.Inside.Namings.{lent_naming, namings_at, lines_behind}
use Rattle.ctl_query.proofs.naming.append_by_atoms.Given as goal

-- what was written, with the lines of what was found and of the atoms that are left, is what was there with those of all atoms
abbrev pub invariant-loop-at : goal.invariant-loop-at
invariant-loop-at l = l.out.items ++ lines_behind (world_of l.depending.asking.now) l.depending.installed (option_map lent_naming l.found) (flat_map (λ (listed : ListedAtom). namings_at l.table listed.at) (drop l.at l.atoms.items))
    ≡ l.initial.out.items ++ lines_behind (world_of l.depending.asking.now) l.depending.installed None (flat_map (λ (listed : ListedAtom). namings_at l.table listed.at) l.atoms.items)
