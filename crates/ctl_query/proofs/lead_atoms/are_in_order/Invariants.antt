use Rattle.std.proofs.Common.{◌≡◌, ◌+◌, ◌<◌, ℕ, true, get_or}
use Rattle.std.specs.Ordering.{is_lt}
use Rattle.ctl_query.specs.declared.lead_atoms.ListedAtom.{ListedAtom}
use Rattle.ctl_query.specs.Leads.{lead_atom_cmp}
use Rattle.ctl_query.proofs.lead_atoms.are_in_order.Given as goal

-- each so far is below the next
abbrev pub invariant-loop-i : goal.invariant-loop-i
invariant-loop-i l = (k : ℕ) (d : ListedAtom) → k + 1 < l.i → is_lt (lead_atom_cmp (get_or l.atoms k d).at (get_or l.atoms (k + 1) d).at) ≡ true
