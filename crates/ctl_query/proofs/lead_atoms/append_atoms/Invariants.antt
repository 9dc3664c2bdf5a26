use Rattle.std.proofs.Common.{◌≡◌, ◌++◌, take, flat_map}
use Rattle.ctl_query.specs.declared.lead_atoms.ListedAtom.{ListedAtom}
use Rattle.ctl_query.specs.Leads.{line_at}
use Rattle.ctl_query.proofs.lead_atoms.append_atoms.Given as goal

-- what was written, are the lines of the atoms so far
abbrev pub invariant-loop-at : goal.invariant-loop-at
invariant-loop-at l = l.out.items ≡ l.initial.out.items ++ flat_map (λ (listed : ListedAtom). line_at l.table l.name listed.at) (take l.at l.atoms)
