-- Of the tables alone: tables that hold what the stanzas under keys have.
use Rattle.std.specs.Prelude.{◌≡◌, ℕ, suc, List, [], ◌∷◌, if◌then◌else◌}
use Rattle.std.specs.List.{sum_by}
use Rattle.std.specs.Str.{bytes_eq}
use Rattle.ctl_relation.specs.Parts.{AtomParts, OfferParts}
use Rattle.ctl_stanza.specs.Content.{offers_of}
use Rattle.ctl_store.specs.declared.stanza_key.StanzaKey.{StanzaKey}
use Rattle.ctl_store.specs.Entries.{Entry}
use Rattle.ctl_index.specs.declared.keys.ClauseKey.{ClauseKey}
use Rattle.ctl_index.specs.declared.keys.AtomKey.{AtomKey}
use Rattle.ctl_index.specs.declared.keys.NamingAtom.{NamingAtom}
use Rattle.ctl_index.specs.declared.keys.OfferKey.{OfferKey}
use Rattle.ctl_index.specs.declared.tables.Tables.{Tables}
use Rattle.ctl_index.specs.Clauses.{number_at}
use Rattle.ctl_index.specs.Names.{keyed_atoms}
use Rattle.ctl_index.specs.Inside.TablesHeld.{offers_in, namers_in, number_in}
use Rattle.ctl_index.specs.Inside.TablesFit.{AreWhole}
use Rattle.ctl_index.specs.Inside.TablesOrder.{namer_of}
use Rattle.ctl_index.specs.Inside.TablesRows.{AreKept}

abbrev pub keyed_offers_from : StanzaKey → ℕ → List OfferParts → List (OfferKey × OfferParts)
keyed_offers_from key n [] = []
keyed_offers_from key n (offer ∷ offers) = (record { stanza = key; place = n }, offer) ∷ keyed_offers_from key (suc n) offers

-- what a stanza offers, each under its key
abbrev pub keyed_offers : Entry → List (OfferKey × OfferParts)
keyed_offers e = keyed_offers_from e.0 0 (offers_of e.1)

-- a number for each offer, or atom, of a name
abbrev pub offer_named : List ℕ → (OfferKey → ℕ) → OfferKey × OfferParts → ℕ
offer_named q f x = if bytes_eq x.1.name q then f x.0 else 0

abbrev pub atom_named : List ℕ → (NamingAtom → ℕ) → AtomKey × AtomParts → ℕ
atom_named q f x = if bytes_eq x.1.name q then f (namer_of x.0 x.1) else 0

-- sums over the offers of a name, or over the atoms that name it, of stanzas
abbrev pub offers_sum : List ℕ → (OfferKey → ℕ) → List Entry → ℕ
offers_sum q f es = sum_by (λ (e : Entry). sum_by (offer_named q f) (keyed_offers e)) es

abbrev pub namers_sum : List ℕ → (NamingAtom → ℕ) → List Entry → ℕ
namers_sum q f es = sum_by (λ (e : Entry). sum_by (atom_named q f) (keyed_atoms e)) es

-- Under each name stand the keys of its offers, and of its atoms with what is kept of their bounds, each as often as it is there, in
-- any order: any sum over them is that over the stanzas. Each clause has its number, and no other key has one. The rows are those of
-- the stanzas, and these have no fault.
pub record IsIndexed (es : List Entry) (t : Tables) : Type 0 where
  pub offers : (q : List ℕ) (f : OfferKey → ℕ) → sum_by f (offers_in t q) ≡ offers_sum q f es
  pub namers : (q : List ℕ) (f : NamingAtom → ℕ) → sum_by f (namers_in t q) ≡ namers_sum q f es
  pub counters : (k : ClauseKey) → number_in t k ≡ number_at k es
  pub rows : AreKept es t.names.map
  pub whole : AreWhole es
