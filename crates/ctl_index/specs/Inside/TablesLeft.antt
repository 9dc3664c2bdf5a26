-- Of the tables alone: what stanzas that go leave of them.
use Rattle.std.specs.Prelude.{◌≡◌, ℕ, ◌+◌, ◌&&◌, Bool, false, List, None, is_some, if◌then◌else◌}
use Rattle.std.specs.List.{list_any, sum_by}
use Rattle.std.specs.Option.{option_map_or}
use Rattle.std.specs.Str.{bytes_eq}
use Rattle.ctl_relation.specs.declared.field_kind.FieldKind.{FieldKind}
use Rattle.ctl_relation.specs.Parts.{AtomParts, OfferParts}
use Rattle.ctl_stanza.specs.Content.{Content, groups_of, offers_of}
use Rattle.ctl_store.specs.declared.stanza_key.StanzaKey.{StanzaKey}
use Rattle.ctl_store.specs.Keys.{key_is}
use Rattle.ctl_index.specs.declared.keys.ClauseKey.{ClauseKey}
use Rattle.ctl_index.specs.declared.keys.NamingAtom.{NamingAtom}
use Rattle.ctl_index.specs.declared.keys.OfferKey.{OfferKey}
use Rattle.ctl_index.specs.declared.tables.Tables.{Tables}
use Rattle.ctl_index.specs.Names.{naming_fields}
use Rattle.ctl_index.specs.Offers.{is_offered}
use Rattle.ctl_index.specs.Inside.TablesCounters.{less_by}
use Rattle.ctl_index.specs.Inside.TablesHeld.{offers_in, namers_in, rows_in, number_in}
use Rattle.ctl_index.specs.Inside.TablesLoaded.{all_hits}
use Rattle.ctl_index.specs.Inside.TablesOrder.{offer_stanza, namer_stanza, without_if, span_of}
use Rattle.ctl_index.specs.Inside.TablesRows.{AreRowsTaken}
use Rattle.ctl_index.specs.Inside.TablesPending.{Pending, seen, entries_seen}
use Rattle.ctl_index.specs.Inside.TablesTests.{of_found, offers_tested, atoms_tested}

-- ---- under a name q

-- whether one of these offers is of the name
abbrev pub has_offer : List ℕ → List OfferParts → Bool
has_offer q offers = list_any (is_offered q) offers

-- whether one of these atoms names it
abbrev pub has_namer : List ℕ → List AtomParts → Bool
has_namer q atoms = list_any (λ (atom : AtomParts). bytes_eq atom.name q) atoms

-- whether an atom of a field of a stanza names it
abbrev pub has_namer_in : List ℕ → Content → FieldKind → Bool
has_namer_in q stanza field = list_any (has_namer q) (groups_of field stanza)

-- whether the stanza that is seen under a key offers it
abbrev pub has_offer_at : Pending → List ℕ → StanzaKey → Bool
has_offer_at s q key = option_map_or (λ x. has_offer q (offers_of x)) (seen s key) false

-- whether an atom of that stanza names it
abbrev pub has_namer_at : Pending → List ℕ → StanzaKey → Bool
has_namer_at s q key = option_map_or (λ x. list_any (has_namer_in q x) naming_fields) (seen s key) false

-- ---- the number of a clause k

-- whether a key is that of a stanza that is seen under it
abbrev pub is_stanza_at : Pending → StanzaKey → StanzaKey → Bool
is_stanza_at s q key = key_is q key && is_some (seen s key)

-- how often it is hit by what the stanza under a key offers
abbrev pub hits_at : Pending → (List ℕ → List NamingAtom) → ClauseKey → StanzaKey → ℕ
hits_at s namers k key = of_found (seen s) (λ x. all_hits s namers (offers_of x) k) key

-- ---- once the stanzas under these keys went

-- the offers of a name: where one of them offers it, all of their span went
abbrev pub offers_taken : Pending → List StanzaKey → Tables → List ℕ → List OfferKey
offers_taken s keys old q = without_if offer_stanza (span_of keys) (list_any (has_offer_at s q) keys) (offers_in old q)

-- the atoms that name it: where an atom of one of them does, all of their span went
abbrev pub namers_taken : Pending → List StanzaKey → Tables → List ℕ → List NamingAtom
namers_taken s keys old q = without_if namer_stanza (span_of keys) (list_any (has_namer_at s q) keys) (namers_in old q)

-- Under each name stands what they leave. A clause of theirs has no number, and one that stays has its own less how often what they
-- offer hits it. The rows are without their keys.
pub record IsTakenOut (s : Pending) (keys : List StanzaKey) (old new : Tables) : Type 0 where
  pub offers : (q : List ℕ) → offers_in new q ≡ offers_taken s keys old q
  pub namers : (q : List ℕ) → namers_in new q ≡ namers_taken s keys old q
  pub counters : (k : ClauseKey) → number_in new k
      ≡ less_by (sum_by (hits_at s (namers_taken s keys old) k) keys) (if list_any (is_stanza_at s k.stanza) keys then None else number_in old k)
  pub rows : AreRowsTaken (entries_seen s keys) (rows_in old) (rows_in new)

-- how many tests are made
abbrev pub tests_taken_out : Pending → List StanzaKey → Tables → ℕ
tests_taken_out s keys old = atoms_tested s (offers_in old) keys + offers_tested s (namers_taken s keys old) keys
