-- How the groups of a relation field are held: by the places in its body at which their atoms begin. Not for callers, who
-- read the groups.
use Rattle.std.specs.Prelude.{◌≡◌, ℕ, suc, ◌+◌, ◌-◌, ◌<◌, ◌≤◌, ◌^◌, nat_lt, List, [], ◌∷◌, ◌++◌, length, map, take, drop, Option, Some, None, Result, Ok, Err}
use Rattle.std.specs.List.{All, prefix_len}
use Rattle.ctl_relation.specs.declared.field_kind.FieldKind.{FieldKind}
use Rattle.ctl_relation.specs.declared.places.Places.{Places}
use Rattle.ctl_relation.specs.declared.relation_fault.RelationFault.{RelationFault}
use Rattle.ctl_relation.specs.Parts.{AtomParts}
use Rattle.ctl_relation.specs.Reading.{atom_at, group_at, relations_of}

-- ---- what stands at places

abbrev pub atom_read : Result (AtomParts × List ℕ) RelationFault → AtomParts
atom_read (Ok x) = x.0
atom_read (Err fault) = record { name = []; qualifier = None; bound = None }

-- the atom that begins at a place of a body
abbrev pub atom_held : FieldKind → List ℕ → ℕ → AtomParts
atom_held kind body place = atom_read (atom_at kind (drop place body))

abbrev pub atoms_held : FieldKind → List ℕ → List ℕ → List AtomParts
atoms_held kind body places = map (atom_held kind body) places

-- how many of the places come before a bound
abbrev pub count_below : ℕ → List ℕ → ℕ
count_below bound places = prefix_len (λ place. nat_lt place bound) places

-- how many of the further places come before the next group, all of them where there is none
abbrev pub count_before : List ℕ → List ℕ → ℕ
count_before [] further = length further
count_before (next ∷ starts) further = count_below next further

-- the further places without those of groups before the first of these
abbrev pub behind_earlier : List ℕ → List ℕ → List ℕ
behind_earlier [] further = further
behind_earlier (start ∷ starts) further = drop (count_below start further) further

-- The groups that begin at these places. What comes further in each of them begins at the further places up to the next
-- group.
abbrev pub groups_held : FieldKind → List ℕ → List ℕ → List ℕ → List (List AtomParts)
groups_held kind body [] further = []
groups_held kind body (start ∷ starts) further =
    atoms_held kind body (start ∷ take (count_before starts further) further)
    ∷ groups_held kind body starts (drop (count_before starts further) further)

-- the places of the atoms of a group that are left: of its first one, until it was given, and of the further ones
abbrev pub places_left : Option ℕ → List ℕ → List ℕ
places_left None further = further
places_left (Some first) further = first ∷ further

-- the groups at the places that are kept of a field
abbrev pub groups_kept : List ℕ → Places → List (List AtomParts)
groups_kept body places = groups_held places.kind body (take places.group_count places.list.items) (drop places.group_count places.list.items)

-- ---- the facts that hold them together

-- an atom begins at a place of a body
pub record HasAtom (kind : FieldKind) (body : List ℕ) (place : ℕ) : Type 0 where
  pub within : place ≤ length body
  pub atom : AtomParts
  pub left : List ℕ
  pub read : atom_at kind (drop place body) ≡ Ok (atom, left)

abbrev pub HaveAtoms : FieldKind → List ℕ → List ℕ → Type 0
HaveAtoms kind body places = All (HasAtom kind body) places

-- each place is above the one before it, none is below low, and all are below high
abbrev pub Rise : ℕ → ℕ → List ℕ → Type 0
Rise low high [] = low ≤ high
Rise low high (place ∷ places) = (low ≤ place) × Rise (suc place) high places

-- at these places of a body stand groups
pub record AreHeld (kind : FieldKind) (body starts further : List ℕ) : Type 0 where
  pub first_atoms : HaveAtoms kind body starts
  pub further_atoms : HaveAtoms kind body further
  pub starts_rise : Rise 0 (2 ^ 32) starts
  pub further_rise : Rise 0 (2 ^ 32) further

-- at the places that are kept of a field groups stand in this body
pub record ArePlacesIn (body : List ℕ) (places : Places) : Type 0 where
  pub within : places.group_count ≤ length places.list.items
  pub held : AreHeld places.kind body (take places.group_count places.list.items) (drop places.group_count places.list.items)

-- ---- how a field is read to places

-- a text is the end of a body
pub record IsEnd (body text : List ℕ) : Type 0 where
  pub front : List ℕ
  pub whole : body ≡ front ++ text

-- where the end of a body begins
abbrev pub place_of : List ℕ → List ℕ → ℕ
place_of body text = length body - length text

-- A group was read from the end of a body: its further places were added to those before.
pub record ReadsGroup (kind : FieldKind) (body text old new after : List ℕ) : Type 0 where
  pub further : List ℕ
  pub added : new ≡ old ++ further
  pub first_atom : HasAtom kind body (place_of body text)
  pub further_atoms : HaveAtoms kind body further
  pub rise : Rise (suc (place_of body text)) (place_of body after) further
  pub ends : IsEnd body after
  pub shorter : length after < length text
  pub read : group_at (length text + 1) kind text ≡ Ok (atoms_held kind body (place_of body text ∷ further), after)

-- the groups of a body were read to these places
pub record ReadsField (kind : FieldKind) (body starts further : List ℕ) : Type 0 where
  pub held : AreHeld kind body starts further
  pub few : length starts < 2 ^ 32
  pub read : relations_of kind body ≡ Ok (groups_held kind body starts further)
