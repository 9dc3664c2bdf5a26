-- What holds of a stanza without a fault.
use Rattle.std.specs.Prelude.{◌≡◌, ◌*◌, ◌<◌, ◌≤◌, ◌^◌, ℕ, true, List, length, None, IsSome}
use Rattle.std.specs.List.{All, sum_by, flat_map}
use Rattle.ctl_relation.specs.declared.field_kind.FieldKind.{FieldKind}
use Rattle.ctl_relation.specs.Bounds.{atom_count}
use Rattle.ctl_relation.specs.FieldKind.{nine_fields}
use Rattle.ctl_relation.specs.Met.{met_pairs}
use Rattle.ctl_relation.specs.Names.{is_name}
use Rattle.ctl_relation.specs.Parts.{AtomParts}
use Rattle.ctl_stanza.specs.Lines.{lines_of}
use Rattle.ctl_stanza.specs.Content.{Content, is_live, package_of, version_of, relations_of_kind, provides_of, offers_of}
use Rattle.ctl_stanza.specs.Faults.{stanza_fault}

-- a stanza has no fault, and less than 2^32 bytes
pub record IsWhole (content : Content) : Type 0 where
  pub no_fault : stanza_fault content.kind 0 (lines_of content.text) ≡ None
  pub small : length content.text < 2 ^ 32

-- an entry of Provides: a group of one atom
abbrev pub IsOneAtom : List AtomParts → Type 0
IsOneAtom group = length group ≡ 1

-- a group of few atoms
abbrev pub IsSmallGroup : List AtomParts → Type 0
IsSmallGroup group = length group < 2 ^ 32

-- how many atoms a stanza has in its relation fields together
abbrev pub atoms_of : Content → ℕ
atoms_of content = sum_by (λ kind. atom_count (relations_of_kind kind content)) nine_fields

-- A stanza has a name, and where it is live a version. Each group of its relation fields has an atom, and each entry of
-- Provides one alone. The groups and the atoms of a field, the atoms of all fields together, and what the stanza offers, are
-- few.
pub record IsSound (content : Content) : Type 0 where
  pub name : is_name (package_of content) ≡ true
  pub version : is_live content ≡ true → IsSome (version_of content)
  pub some : (kind : FieldKind) → All (λ group. 0 < length group) (relations_of_kind kind content)
  pub one : All IsOneAtom (provides_of content)
  pub atoms : (kind : FieldKind) → atom_count (relations_of_kind kind content) < 2 ^ 32
  pub groups : (kind : FieldKind) → length (relations_of_kind kind content) < 2 ^ 32
  pub sizes : (kind : FieldKind) → All IsSmallGroup (relations_of_kind kind content)
  pub all_atoms : atoms_of content < 2 ^ 32
  pub offers : length (offers_of content) < 2 ^ 32

-- The atoms in the relation fields of less than 2^32 stanzas, and what these offer, make so many pairs that 128 bits hold their
-- number.
abbrev pub PairsFit : Type 0
PairsFit = (contents : List Content) → length contents < 2 ^ 32 → All IsWhole contents
    → sum_by atoms_of contents * sum_by (λ content. length (offers_of content)) contents < 2 ^ 128

-- Of fewer than 2^64 atoms, and what fewer than 2^32 stanzas offer, so few pairs meet that 128 bits hold their number.
abbrev pub MetPairsFit : Type 0
MetPairsFit = (atoms : List AtomParts) (contents : List Content) → length atoms < 2 ^ 64
    → length contents < 2 ^ 32 → All IsWhole contents → met_pairs atoms (flat_map offers_of contents) < 2 ^ 128

-- So is it of atoms that are no more than those in the relation fields of these stanzas.
abbrev pub OwnMetPairsFit : Type 0
OwnMetPairsFit = (atoms : List AtomParts) (contents : List Content) → length atoms ≤ sum_by atoms_of contents
    → length contents < 2 ^ 32 → All IsWhole contents → met_pairs atoms (flat_map offers_of contents) < 2 ^ 128
