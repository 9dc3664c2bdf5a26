-- Of the tables alone: what stanzas that come make of them, told by sums.
use Rattle.std.specs.Prelude.{◌≡◌, ℕ, ◌+◌, List, slice_get, Option, None, if◌then◌else◌}
use Rattle.std.specs.List.{All, sum_by}
use Rattle.std.specs.Option.{option_map, option_or}
use Rattle.ctl_relation.specs.declared.field_kind.FieldKind.{FieldKind}
use Rattle.ctl_relation.specs.Parts.{AtomParts, OfferParts}
use Rattle.ctl_store.specs.declared.stanza_key.StanzaKey.{StanzaKey}
use Rattle.ctl_store.specs.Entries.{Entry}
use Rattle.ctl_store.specs.Followed.{AreApart}
use Rattle.ctl_index.specs.declared.keys.ClauseKey.{ClauseKey}
use Rattle.ctl_index.specs.declared.keys.NamingAtom.{NamingAtom}
use Rattle.ctl_index.specs.declared.keys.OfferKey.{OfferKey}
use Rattle.ctl_index.specs.declared.tables.Tables.{Tables}
use Rattle.ctl_index.specs.Clauses.{clause_at}
use Rattle.ctl_index.specs.Offers.{contents, offers_among}
use Rattle.ctl_index.specs.Work.{pairs}
use Rattle.ctl_index.specs.Inside.TablesCounters.{counted_up}
use Rattle.ctl_index.specs.Inside.TablesFit.{IsWholeAt}
use Rattle.ctl_index.specs.Inside.TablesHeld.{offers_in, namers_in, rows_in, number_in}
use Rattle.ctl_index.specs.Inside.TablesIndexed.{offers_sum, namers_sum}
use Rattle.ctl_index.specs.Inside.TablesRows.{AreRowsPut}
use Rattle.ctl_index.specs.Inside.TablesPending.{Pending, seen, entries_seen}
use Rattle.ctl_index.specs.Inside.TablesTests.{OffersByName, is_clause, group_clause, group_met, offer_hits, offers_tested, atoms_tested}

-- how often these offers hit a clause, where these namers stand under the names
abbrev pub all_hits : Pending → (List ℕ → List NamingAtom) → List OfferParts → ClauseKey → ℕ
all_hits s namers offers k = sum_by (λ offer. offer_hits s namers offer k) offers

-- the group that a clause's key names, where these are the groups of a field of a stanza
abbrev pub group_named : StanzaKey → FieldKind → List (List AtomParts) → ClauseKey → Option (List AtomParts)
group_named key field groups k = if is_clause (group_clause key field k.group) k then slice_get groups k.group else None

-- the number of a clause, where this group comes under its key, if any does: as many of these offers as meet its atoms
abbrev pub number_with : Pending → OffersByName → FieldKind → Option (List AtomParts) → Option ℕ → Option ℕ
number_with s offers field group old = option_or (option_map (group_met s field offers) group) old

-- The number of a clause once stanzas came: one of theirs has the offers that meet it, and one that stood is raised by what they offer.
abbrev pub number_loaded : Pending → List Entry → Tables → Tables → ClauseKey → Option ℕ
number_loaded s come old new k =
    number_with s (offers_in new) k.field (clause_at k come)
    (option_map (counted_up (all_hits s (namers_in old) (offers_among (contents come)) k)) (number_in old k))

-- What stood under each name stands there still, and with it what the stanzas under these keys bring, in any order. Each clause has
-- its number, and these stanzas have no fault.
pub record IsLoaded (s : Pending) (keys : List StanzaKey) (old new : Tables) : Type 0 where
  pub offers : (q : List ℕ) (f : OfferKey → ℕ)
      → sum_by f (offers_in new q) ≡ sum_by f (offers_in old q) + offers_sum q f (entries_seen s keys)
  pub namers : (q : List ℕ) (f : NamingAtom → ℕ)
      → sum_by f (namers_in new q) ≡ sum_by f (namers_in old q) + namers_sum q f (entries_seen s keys)
  pub counters : (k : ClauseKey) → number_in new k ≡ number_loaded s (entries_seen s keys) old new k
  pub rows : AreRowsPut (entries_seen s keys) (rows_in old) (rows_in new)
  pub whole : All (IsWholeAt (seen s)) keys

-- the stanzas under these keys stand under keys of their own
abbrev pub ComeApart : Pending → List StanzaKey → Type 0
ComeApart s keys = AreApart (entries_seen s keys)

-- how many tests are made: offers that come and atoms that stood, atoms that come and offers that stood, and the pairs of what comes
abbrev pub tests_put_in : Pending → List StanzaKey → Tables → ℕ
tests_put_in s keys old =
    (offers_tested s (namers_in old) keys + atoms_tested s (offers_in old) keys) + pairs (contents (entries_seen s keys))
