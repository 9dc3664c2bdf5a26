-- Of the tables alone: how many offers meet the atoms of groups, and how many tests stanzas that come or go make.
use Rattle.std.specs.Prelude.{ℕ, ◌&&◌, Bool, List, Option}
use Rattle.std.specs.List.{sum_by}
use Rattle.std.specs.Option.{option_map_or}
use Rattle.std.specs.Ordering.{is_eq}
use Rattle.ctl_relation.specs.declared.field_kind.FieldKind.{FieldKind}
use Rattle.ctl_relation.specs.Parts.{AtomParts, OfferParts}
use Rattle.ctl_stanza.specs.Content.{Content, groups_of, offers_of}
use Rattle.ctl_store.specs.declared.stanza_key.StanzaKey.{StanzaKey}
use Rattle.ctl_index.specs.declared.keys.ClauseKey.{ClauseKey}
use Rattle.ctl_index.specs.declared.keys.NamingAtom.{NamingAtom}
use Rattle.ctl_index.specs.declared.keys.OfferKey.{OfferKey}
use Rattle.ctl_index.specs.Clauses.{is_clause_field, clause_cmp}
use Rattle.ctl_index.specs.Names.{naming_fields}
use Rattle.ctl_index.specs.Inside.TablesPending.{Pending, seen, hit, tested, atom_met, atom_tested}

-- ---- the counters, where these offers stand under the names

-- the offers of each name
abbrev pub OffersByName : Type 0
OffersByName = List ℕ → List OfferKey

-- how many offers meet the atoms of a group, and how many are tested
abbrev pub group_met : Pending → FieldKind → (List ℕ → List OfferKey) → List AtomParts → ℕ
group_met s field offers group = sum_by (λ (atom : AtomParts). atom_met s field atom (offers atom.name)) group

abbrev pub group_tested : Pending → FieldKind → (List ℕ → List OfferKey) → List AtomParts → ℕ
group_tested s field offers group = sum_by (λ (atom : AtomParts). atom_tested s field (offers atom.name)) group

abbrev pub groups_tested : Pending → FieldKind → (List ℕ → List OfferKey) → List (List AtomParts) → ℕ
groups_tested s field offers groups = sum_by (group_tested s field offers) groups

abbrev pub fields_tested : Pending → (List ℕ → List OfferKey) → List FieldKind → Content → ℕ
fields_tested s offers fields stanza = sum_by (λ field. groups_tested s field offers (groups_of field stanza)) fields

-- whether a clause is this group
abbrev pub is_clause : ClauseKey → ClauseKey → Bool
is_clause group k = is_clause_field group.field && is_eq (clause_cmp group k)

abbrev pub group_clause : StanzaKey → FieldKind → ℕ → ClauseKey
group_clause key field n = record { stanza = key; field = field; group = n }

-- ---- the counters, where offers come or go and these namers stand under the names

-- how many of the atoms that name an offer meet it, and are of a clause
abbrev pub offer_hits : Pending → (List ℕ → List NamingAtom) → OfferParts → ClauseKey → ℕ
offer_hits s namers offer k = sum_by (hit s offer k) (namers offer.name)

-- how many tests an offer makes, and how many several make
abbrev pub offer_tested : Pending → (List ℕ → List NamingAtom) → OfferParts → ℕ
offer_tested s namers offer = sum_by (tested s offer.name) (namers offer.name)

abbrev pub all_tested : Pending → (List ℕ → List NamingAtom) → List OfferParts → ℕ
all_tested s namers offers = sum_by (offer_tested s namers) offers

-- ---- several stanzas

-- a number of each stanza that is found, 0 where there is none
abbrev pub of_found : (StanzaKey → Option Content) → (Content → ℕ) → StanzaKey → ℕ
of_found find f key = option_map_or f (find key) 0

-- how many tests the offers, or the atoms, of a stanza make, and those of several
abbrev pub offers_tests : Pending → (List ℕ → List NamingAtom) → Content → ℕ
offers_tests s namers x = all_tested s namers (offers_of x)

abbrev pub offers_tested_at : Pending → (List ℕ → List NamingAtom) → StanzaKey → ℕ
offers_tested_at s namers key = of_found (seen s) (offers_tests s namers) key

abbrev pub atoms_tested_at : Pending → (List ℕ → List OfferKey) → StanzaKey → ℕ
atoms_tested_at s offers key = of_found (seen s) (fields_tested s offers naming_fields) key

abbrev pub offers_tested : Pending → (List ℕ → List NamingAtom) → List StanzaKey → ℕ
offers_tested s namers keys = sum_by (offers_tested_at s namers) keys

abbrev pub atoms_tested : Pending → (List ℕ → List OfferKey) → List StanzaKey → ℕ
atoms_tested s offers keys = sum_by (atoms_tested_at s offers) keys
