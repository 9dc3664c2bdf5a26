-- Who names what, and which names are known: what is offered (Debian Policy 7.5), and what a relation field names (7.1).
use Rattle.std.specs.Prelude.{ℕ, suc, Bool, true, ◌&&◌, nat_le, List, [], ◌∷◌, ◌++◌, map, filter, flat_map, length, codes, Option, None, Some, if◌then◌else◌}
use Rattle.std.specs.BTreeSet.{insert_key}
use Rattle.std.specs.Cmp.Lexicographic.{slice_cmp}
use Rattle.std.specs.Ordering.{nat_cmp}
use Rattle.std.specs.List.{list_any}
use Rattle.std.specs.Str.{bytes_eq}
use Rattle.ctl_relation.specs.declared.field_kind.FieldKind.{FieldKind}
use Rattle.ctl_relation.specs.declared.operator.Operator.{Operator}
-- the fields whose atoms name packages
pub use Rattle.ctl_relation.specs.FieldKind.{eight_fields as naming_fields}
use Rattle.ctl_relation.specs.Parts.{AtomParts, OfferParts}
use Rattle.ctl_stanza.specs.Content.{Content, package_of, is_live, groups_of, offers_of}
use Rattle.ctl_store.specs.declared.stanza_key.StanzaKey.{StanzaKey}
use Rattle.ctl_store.specs.Entries.{Entry}
use Rattle.ctl_index.specs.declared.keys.AtomKey.{AtomKey}

-- the atoms of these fields of a stanza
abbrev pub naming_atoms : Content → List AtomParts
naming_atoms stanza = flat_map (λ field. flat_map (λ group. group) (groups_of field stanza)) naming_fields

-- names in the order of their bytes, each once
unfoldable pub in_order : List (List ℕ) → List (List ℕ)
in_order [] = []
in_order (name ∷ names) = insert_key (slice_cmp nat_cmp) (in_order names) name

-- the names that a stanza offers, and those that its atoms name
abbrev pub names_told : Content → List (List ℕ)
names_told stanza = map (λ (offer : OfferParts). offer.name) (offers_of stanza) ++ map (λ (atom : AtomParts). atom.name) (naming_atoms stanza)

-- A name is known that is offered, or is the name of an atom of one of the eight fields. What has a row is offered.
unfoldable pub known_names : List Content → List (List ℕ)
known_names stanzas = in_order (flat_map names_told stanzas)

-- whether a live stanza is of the package of a name
abbrev pub is_package : List Content → List ℕ → Bool
is_package stanzas name = list_any (λ stanza. is_live stanza && bytes_eq name (package_of stanza)) stanzas

-- ---- under their keys

abbrev pub atom_key : StanzaKey → FieldKind → ℕ → ℕ → AtomKey
atom_key key field group n = record { stanza = key; field = field; group = group; atom = n }

abbrev pub keyed_group : StanzaKey → FieldKind → ℕ → ℕ → List AtomParts → List (AtomKey × AtomParts)
keyed_group key field group n [] = []
keyed_group key field group n (atom ∷ atoms) = (atom_key key field group n, atom) ∷ keyed_group key field group (suc n) atoms

abbrev pub keyed_groups : StanzaKey → FieldKind → ℕ → List (List AtomParts) → List (AtomKey × AtomParts)
keyed_groups key field n [] = []
keyed_groups key field n (group ∷ groups) = keyed_group key field n 0 group ++ keyed_groups key field (suc n) groups

-- the atoms of the eight fields of a stanza, each under its key
abbrev pub keyed_atoms : Entry → List (AtomKey × AtomParts)
keyed_atoms e = flat_map (λ field. keyed_groups e.0 field 0 (groups_of field e.1)) naming_fields

-- the atoms of a stanza that name a name
abbrev pub is_named : List ℕ → AtomKey × AtomParts → Bool
is_named name atom = bytes_eq atom.1.name name

abbrev pub namers_of : List ℕ → Entry → List AtomKey
namers_of name e = map (λ (atom : AtomKey × AtomParts). atom.0) (filter (is_named name) (keyed_atoms e))

-- the atoms that name a name, in cache order
abbrev pub namers_named : List ℕ → List Entry → List AtomKey
namers_named name es = flat_map (namers_of name) es

-- ---- what is kept of them

-- all of an atom but its name: its qualifier and its bound
abbrev pub AllButName : Type 0
AllButName = Option (List ℕ) × Option (Operator × List ℕ)

-- the atom of a name
abbrev pub with_name : List ℕ → AllButName → AtomParts
with_name name rest = record { name = name; qualifier = rest.0; bound = rest.1 }

-- how many bytes a version has at most that is kept
abbrev pub most_kept : ℕ
most_kept = 8

abbrev pub is_qualifier_kept : Option (List ℕ) → Bool
is_qualifier_kept None = true
is_qualifier_kept (Some qualifier) = bytes_eq qualifier (codes "any")

abbrev pub is_bound_kept : Option (Operator × List ℕ) → Bool
is_bound_kept None = true
is_bound_kept (Some bound) = nat_le (length bound.1) most_kept

-- all but the name is kept of an atom with no qualifier or `any`, and no version that is longer
abbrev pub kept_of : AtomParts → Option AllButName
kept_of atom = if is_qualifier_kept atom.qualifier && is_bound_kept atom.bound then Some (atom.qualifier, atom.bound) else None

-- the key of an atom that names a name, and what is kept of the atom
abbrev pub KeptNamer : Type 0
KeptNamer = AtomKey × Option AllButName

abbrev pub kept_namers_of : List ℕ → Entry → List KeptNamer
kept_namers_of name e = map (λ (atom : AtomKey × AtomParts). (atom.0, kept_of atom.1)) (filter (is_named name) (keyed_atoms e))

-- the atoms that name a name, in cache order, each with what is kept of it
abbrev pub kept_namers_named : List ℕ → List Entry → List KeptNamer
kept_namers_named name es = flat_map (kept_namers_of name) es
