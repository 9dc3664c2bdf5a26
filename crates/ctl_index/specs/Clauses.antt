-- Clauses: the groups of the four fields that ask for packages, each a list of alternatives (Debian Policy 7.1, 7.2). A clause is met
-- by what packages are and what they provide (7.5).
use Rattle.std.specs.Prelude.{ℕ, suc, Bool, false, List, [], ◌∷◌, flat_map, filter, slice_get, nat_eq, Option, None, if◌then◌else◌}
use Rattle.std.specs.List.{list_any}
use Rattle.std.specs.Option.{option_map, option_map_or, option_and_then}
use Rattle.std.specs.Map.{lookup}
use Rattle.std.specs.Ordering.{nat_cmp, ordering_then, is_eq}
use Rattle.std.specs.declared.cmp.Ordering.{Ordering}
use Rattle.ctl_relation.specs.declared.field_kind.FieldKind.{FieldKind}
use Rattle.ctl_relation.specs.FieldKind.{field_place}
-- the fields whose groups are clauses
pub use Rattle.ctl_relation.specs.FieldKind.{four_fields as clause_fields, is_wanted as is_clause_field}
use Rattle.ctl_relation.specs.Parts.{AtomParts, OfferParts}
use Rattle.ctl_relation.specs.Met.{met, met_pairs}
use Rattle.ctl_stanza.specs.Content.{Content, groups_of}
use Rattle.ctl_store.specs.declared.stanza_key.StanzaKey.{StanzaKey}
use Rattle.ctl_store.specs.Keys.{key_cmp}
use Rattle.ctl_store.specs.Entries.{Entry}
use Rattle.ctl_store.specs.Followed.{under}
use Rattle.ctl_index.specs.declared.keys.ClauseKey.{ClauseKey}
use Rattle.ctl_index.specs.Offers.{contents, offers_among}

-- the atoms of the clauses of a stanza
abbrev pub clause_atoms : Content → List AtomParts
clause_atoms stanza = flat_map (λ field. flat_map (λ group. group) (groups_of field stanza)) clause_fields

-- ---- clauses under their keys

-- by stanza, then by field, then by the place of the group in it
abbrev pub clause_cmp : ClauseKey → ClauseKey → Ordering
clause_cmp a b =
    ordering_then (key_cmp a.stanza b.stanza)
    (ordering_then (nat_cmp (field_place a.field) (field_place b.field)) (nat_cmp a.group b.group))

-- the group of a stanza that a clause's key names
abbrev pub clause_of : ClauseKey → Content → Option (List AtomParts)
clause_of key stanza = if is_clause_field key.field then slice_get (groups_of key.field stanza) key.group else None

-- the atoms of a clause, if there is one under the key
abbrev pub clause_at : ClauseKey → List Entry → Option (List AtomParts)
clause_at key es = option_and_then (clause_of key) (under key.stanza es)

-- The number of a clause: the pairs of one of its atoms and an offer of the stanzas that meets it, repeats counted.
abbrev pub number_at : ClauseKey → List Entry → Option ℕ
number_at key es = option_map (λ atoms. met_pairs atoms (offers_among (contents es))) (clause_at key es)

-- the number that stands beside a clause, where clauses stand with theirs
abbrev pub number_among : List (ClauseKey × ℕ) → ClauseKey → Option ℕ
number_among numbers key = lookup (λ q. is_eq (clause_cmp key q)) numbers

-- whether there is a clause under the key that no offer meets
abbrev pub is_unmet : List Entry → ClauseKey → Bool
is_unmet es key = option_map_or (λ n. nat_eq n 0) (number_at key es) false

-- whether an offer meets one of the atoms
abbrev pub is_met : List AtomParts → List OfferParts → Bool
is_met atoms offers = list_any (λ (atom : AtomParts). list_any (met atom) offers) atoms

-- ---- all of them

abbrev pub group_keys : StanzaKey → FieldKind → ℕ → List (List AtomParts) → List ClauseKey
group_keys key field n [] = []
group_keys key field n (group ∷ groups) = record { stanza = key; field = field; group = n } ∷ group_keys key field (suc n) groups

-- the keys of the clauses of a stanza, in order
abbrev pub clauses_of : Entry → List ClauseKey
clauses_of e = flat_map (λ field. group_keys e.0 field 0 (groups_of field e.1)) clause_fields

-- the keys of all clauses, in cache order
abbrev pub clauses : List Entry → List ClauseKey
clauses es = flat_map clauses_of es

-- those that no offer meets
unfoldable pub unmet_clauses : List Entry → List ClauseKey
unmet_clauses es = filter (is_unmet es) (clauses es)
