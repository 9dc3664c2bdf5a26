-- Atoms of leads that are listed, each with what is kept of it.
use Rattle.std.specs.Prelude.{◌≡◌, ℕ, List, map, option_map, IfSome, Some, slice_get}
use Rattle.ctl_relation.specs.Parts.{AtomParts}
use Rattle.ctl_stanza.specs.Content.{Content}
use Rattle.ctl_store.specs.Entries.{Entry}
use Rattle.ctl_index.specs.Names.{KeptNamer, with_name}
use Rattle.ctl_query.specs.declared.lead_atoms.LeadAtom.{LeadAtom}
use Rattle.ctl_query.specs.declared.lead_atoms.ListedAtom.{ListedAtom}
use Rattle.ctl_query.specs.Leads.{atom_in, atom_of, key_at}

-- where they stand
abbrev pub places_in : List ListedAtom → List LeadAtom
places_in atoms = map (λ (listed : ListedAtom). listed.at) atoms

-- the atom that a key names, of the lead at a place
abbrev pub listed_at : KeptNamer → ℕ → ListedAtom
listed_at namer i = record { at = atom_of namer.0 i; namer = namer }

-- the atom of the lead there has this name, and what is kept is that atom, but for the name
abbrev pub IsKeptIn : Content → List ℕ → ListedAtom → Type 0
IsKeptIn lead name listed =
    (option_map (λ (atom : AtomParts). atom.name) (atom_in listed.at lead) ≡ Some name)
    × IfSome listed.namer.1 (λ rest. atom_in listed.at lead ≡ Some (with_name name rest))

abbrev pub IsKept : List Entry → List ℕ → ListedAtom → Type 0
IsKept leads name listed = IfSome (slice_get leads listed.at.place) (λ (e : Entry). IsKeptIn e.1 name listed)

-- and so it is at each lead of the stanza that a key names
abbrev pub IsKeptOf : List Entry → List ℕ → KeptNamer → Type 0
IsKeptOf leads name namer = (i : ℕ) → key_at leads i ≡ Some namer.0.stanza → IsKept leads name (listed_at namer i)
