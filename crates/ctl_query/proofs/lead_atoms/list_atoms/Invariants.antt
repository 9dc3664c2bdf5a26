use Rattle.std.proofs.Common.{◌≡◌, ◌||◌, ℕ, List}
use Rattle.std.specs.List.{All, list_any}
use Rattle.ctl_index.specs.Names.{KeptNamer}
use Rattle.ctl_query.specs.declared.lead_atoms.LeadAtom.{LeadAtom}
use Rattle.ctl_query.specs.Leads.{is_listed, is_at}
use Rattle.ctl_query.specs.Inside.ListedAtoms.{places_in, IsKept, IsKeptOf}
use Rattle.ctl_query.proofs.lead_atoms.list_atoms.Given as goal

-- The atoms so far and those of the keys that are left are those of all keys. What is kept of them is so of those so far.
abbrev pub invariant-namers : goal.invariant-namers
invariant-namers l =
    ((a : LeadAtom) → (list_any (λ (n : KeptNamer). is_at l.table n.0 a) l.namer-iterator || is_listed (places_in l.atoms.items) a) ≡ list_any (λ (n : KeptNamer). is_at l.table n.0 a) l.initial.namer-iterator)
    × ((name : List ℕ) → All (IsKeptOf l.table name) l.initial.namer-iterator → All (IsKeptOf l.table name) l.namer-iterator × All (IsKept l.table name) l.atoms.items)
