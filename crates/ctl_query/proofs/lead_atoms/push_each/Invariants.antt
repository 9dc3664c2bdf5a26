use Rattle.std.proofs.Common.{◌≡◌, ◌||◌, ℕ, List, take}
use Rattle.std.specs.List.{All}
use Rattle.ctl_query.specs.declared.lead_atoms.LeadAtom.{LeadAtom}
use Rattle.ctl_query.specs.LeadTable.{lent_leads}
use Rattle.ctl_query.specs.Leads.{is_listed, is_at}
use Rattle.ctl_query.specs.Inside.ListedAtoms.{places_in, IsKept, IsKeptOf}
use Rattle.ctl_query.proofs.lead_atoms.push_each.Given as goal

-- The atoms so far are those before and those of the leads so far. What is kept of them is so.
abbrev pub invariant-loop-place : goal.invariant-loop-place
invariant-loop-place l =
    ((a : LeadAtom) → is_listed (places_in l.atoms.items) a ≡ (is_at (lent_leads (take l.place l.leads)) l.namer.0 a || is_listed (places_in l.initial.atoms.items) a))
    × ((name : List ℕ) → IsKeptOf (lent_leads l.leads) name l.namer → All (IsKept (lent_leads l.leads) name) l.initial.atoms.items → All (IsKept (lent_leads l.leads) name) l.atoms.items)
