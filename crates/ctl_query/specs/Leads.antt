-- The leads of all rows by their keys, and the atoms by which they name a name.
use Rattle.std.specs.Prelude.{ℕ, Bool, false, List, [], ◌∷◌, flat_map, Option, option_map, slice_get, nat_eq, ◌&&◌}
use Rattle.std.specs.Borrow.{Bor}
use Rattle.std.specs.Option.{option_map_or, option_and_then}
use Rattle.std.specs.List.{list_any}
use Rattle.std.specs.Ordering.{nat_cmp, ordering_then, is_eq}
use Rattle.std.specs.declared.cmp.Ordering.{Ordering}
use Rattle.ctl_relation.specs.FieldKind.{field_place}
use Rattle.ctl_relation.specs.Parts.{AtomParts}
use Rattle.ctl_stanza.specs.Content.{Content, groups_of}
use Rattle.ctl_store.specs.declared.stanza_key.StanzaKey.{StanzaKey}
use Rattle.ctl_store.specs.Keys.{stanza_at, key_is}
use Rattle.ctl_store.specs.Entries.{Entry}
use Rattle.ctl_index.specs.declared.keys.AtomKey.{AtomKey}
use Rattle.ctl_policy.specs.Priority.{World}
use Rattle.ctl_query.specs.declared.lead_atoms.LeadAtom.{LeadAtom}
use Rattle.ctl_query.specs.Packages.{packages_of, rows_of}
use Rattle.ctl_query.specs.ShowPackage.{line_if_naming}

-- ---- leads

-- a lead that is lent
abbrev pub lent_lead : StanzaKey × Bor Content → Entry
lent_lead lead = (lead.0, lead.1.now)

-- the stanza of a key under it, if there is one
abbrev pub keyed_stanza : World → StanzaKey → List Entry
keyed_stanza world key = option_map_or (λ (x : Content). (key, x) ∷ []) (stanza_at key world.lists) []

-- the lead of a row under its key
abbrev pub keyed_lead : World → List StanzaKey → List Entry
keyed_lead world [] = []
keyed_lead world (key ∷ keys) = keyed_stanza world key

abbrev pub leads_named : World → List ℕ → List Entry
leads_named world name = flat_map (keyed_lead world) (rows_of world name)

-- the leads of all rows, package by package, and of each the newest first
unfoldable pub leads_of : World → List Entry
leads_of world = flat_map (leads_named world) (packages_of world)

-- the key of the lead at a place
abbrev pub key_at : List Entry → ℕ → Option StanzaKey
key_at leads i = option_map (λ (e : Entry). e.0) (slice_get leads i)

-- ---- their atoms

-- lead by lead, and in each by field, by group and by the place in it
abbrev pub lead_atom_cmp : LeadAtom → LeadAtom → Ordering
lead_atom_cmp a b =
    ordering_then (nat_cmp a.place b.place)
    (ordering_then (nat_cmp (field_place a.field) (field_place b.field))
    (ordering_then (nat_cmp a.group b.group) (nat_cmp a.atom b.atom)))

-- whether an atom is one of these
abbrev pub is_listed : List LeadAtom → LeadAtom → Bool
is_listed atoms a = list_any (λ b. is_eq (lead_atom_cmp a b)) atoms

-- the atom of a stanza
abbrev pub atom_in : LeadAtom → Content → Option AtomParts
atom_in a lead = option_and_then (λ (group : List AtomParts). slice_get group a.atom) (slice_get (groups_of a.field lead) a.group)

-- what `showpkg` prints of an atom of a lead; nothing where there is none, or it has another name
abbrev pub line_in : List ℕ → LeadAtom → Content → List ℕ
line_in name a lead = option_map_or (line_if_naming name lead a.field) (atom_in a lead) []

abbrev pub line_at : List Entry → List ℕ → LeadAtom → List ℕ
line_at leads name a = option_map_or (λ (e : Entry). line_in name a e.1) (slice_get leads a.place) []

-- the atom that a key names, of the lead at a place
abbrev pub atom_of : AtomKey → ℕ → LeadAtom
atom_of k i = record { place = i; field = k.field; group = k.group; atom = k.atom }

-- whether a key names the atom of a lead of this key
abbrev pub is_key_of : LeadAtom → AtomKey → StanzaKey → Bool
is_key_of a k key =
    key_is key k.stanza && (nat_eq (field_place a.field) (field_place k.field) && (nat_eq a.group k.group && nat_eq a.atom k.atom))

abbrev pub is_at : List Entry → AtomKey → LeadAtom → Bool
is_at leads k a = option_map_or (is_key_of a k) (key_at leads a.place) false
