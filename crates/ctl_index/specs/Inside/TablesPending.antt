-- Of the tables alone: which stanza stands under a key while an edit is followed. One that comes with a plan, else one of the store.
use Rattle.std.specs.Prelude.{ℕ, Bool, false, ◌&&◌, ◌≡◌, List, slice_get, Option, None, Some, if◌then◌else◌}
use Rattle.std.specs.List.{sum_by, AllByRecursion}
use Rattle.ctl_relation.specs.declared.field_kind.FieldKind.{FieldKind}
use Rattle.std.specs.Option.{option_and_then, option_map, option_map_or, option_or}
use Rattle.std.specs.Ordering.{is_eq}
use Rattle.std.specs.Str.{bytes_eq}
use Rattle.ctl_relation.specs.Parts.{AtomParts, OfferParts}
use Rattle.ctl_relation.specs.Met.{met}
use Rattle.ctl_stanza.specs.Content.{Content, groups_of, offers_of}
use Rattle.ctl_store.specs.declared.stanza_key.StanzaKey.{StanzaKey}
use Rattle.ctl_store.specs.Keys.{stanza_at}
use Rattle.ctl_store.specs.Entries.{Entry, entries_by}
use Rattle.ctl_store.specs.Followed.{coming_under}
use Rattle.ctl_store.specs.Store.{Held, keyed_of}
use Rattle.ctl_store.specs.Plans.{Planned}
use Rattle.ctl_index.specs.declared.keys.ClauseKey.{ClauseKey}
use Rattle.ctl_index.specs.declared.keys.AtomKey.{AtomKey}
use Rattle.ctl_index.specs.declared.keys.NamingAtom.{NamingAtom}
use Rattle.ctl_index.specs.declared.keys.OfferKey.{OfferKey}
use Rattle.ctl_index.specs.Clauses.{is_clause_field, clause_cmp}
use Rattle.ctl_index.specs.Names.{with_name}
use Rattle.ctl_index.specs.Inside.TablesOrder.{namer_key}

-- a store, and a plan whose stanzas come, if there is one
pub record Pending : Type 0 where
  pub store : Held
  pub plan : Option Planned

-- the stanza that comes with a plan under a key, if there is one
abbrev pub come_with : Option Planned → StanzaKey → Option Content
come_with plan k = option_and_then (λ (p : Planned). coming_under p.added p.edit k) plan

abbrev pub seen : Pending → StanzaKey → Option Content
seen s k = option_or (come_with s.plan k) (stanza_at k (keyed_of s.store).lists)

-- the stanzas that are seen under keys
abbrev pub entries_seen : Pending → List StanzaKey → List Entry
entries_seen s keys = entries_by (seen s) keys

abbrev pub offer_seen : Pending → OfferKey → Option OfferParts
offer_seen s k = option_and_then (λ x. slice_get (offers_of x) k.place) (seen s k.stanza)

-- the atom of a stanza that its key names
abbrev pub atom_in : AtomKey → Content → Option AtomParts
atom_in k x = option_and_then (λ group. slice_get group k.atom) (slice_get (groups_of k.field x) k.group)

abbrev pub atom_seen : Pending → AtomKey → Option AtomParts
atom_seen s k = option_and_then (atom_in k) (seen s k.stanza)

-- whether an offer under a key meets the atom, and whether it is tested, as numbers
abbrev pub met_by : Pending → AtomParts → OfferKey → ℕ
met_by s atom k = option_map_or (λ offer. if met atom offer then 1 else 0) (offer_seen s k) 0

abbrev pub tested_by : Pending → OfferKey → ℕ
tested_by s k = option_map_or (λ (offer : OfferParts). 1) (offer_seen s k) 0

-- as a number, whether no offer of this name is seen under a key
abbrev pub missing : Pending → List ℕ → OfferKey → ℕ
missing s name k = if option_map_or (λ (offer : OfferParts). bytes_eq name offer.name) (offer_seen s k) false then 0 else 1

-- under each name stand the keys of offers that are seen and have the name
pub record AreThere (s : Pending) (offers : List ℕ → List OfferKey) : Type 0 where
  pub none_missing : (name : List ℕ) → sum_by (missing s name) (offers name) ≡ 0

-- how many of these offers meet an atom of a field, and how many are tested: none where the field has no clauses
abbrev pub atom_met : Pending → FieldKind → AtomParts → List OfferKey → ℕ
atom_met s field atom offers = if is_clause_field field then sum_by (met_by s atom) offers else 0

abbrev pub atom_tested : Pending → FieldKind → List OfferKey → ℕ
atom_tested s field offers = if is_clause_field field then sum_by (tested_by s) offers else 0

-- the clause of an atom
abbrev pub clause_key : AtomKey → ClauseKey
clause_key k = record { stanza = k.stanza; field = k.field; group = k.group }

-- the atom of a namer of this name: what is kept, else what is seen
abbrev pub atom_told : Pending → List ℕ → NamingAtom → Option AtomParts
atom_told s name namer = option_or (option_map (with_name name) namer.kept) (atom_seen s (namer_key namer))

-- whether a namer is one of a clause
abbrev pub is_namer_of : ClauseKey → NamingAtom → Bool
is_namer_of k namer = is_eq (clause_cmp (clause_key (namer_key namer)) k)

-- whether the atom of a namer is of the clause and met by the offer, and whether it is tested against offers of this name, as numbers
abbrev pub hit : Pending → OfferParts → ClauseKey → NamingAtom → ℕ
hit s offer k namer =
    option_map_or (λ atom. if (is_clause_field namer.field && met atom offer) && is_namer_of k namer then 1 else 0)
    (atom_told s offer.name namer) 0

abbrev pub tested : Pending → List ℕ → NamingAtom → ℕ
tested s name namer = option_map_or (λ (atom : AtomParts). if is_clause_field namer.field then 1 else 0) (atom_told s name namer) 0

-- ---- a store alone, and with a plan

abbrev pub in_store : Held → Pending
in_store h = record { store = h; plan = None }

abbrev pub with_plan : Held → Planned → Pending
with_plan h plan = record { store = h; plan = Some plan }

-- each stanza is what is seen under its key
abbrev pub AreSeen : Pending → List Entry → Type 0
AreSeen s es = AllByRecursion (λ (e : Entry). seen s e.0 ≡ Some e.1) es
