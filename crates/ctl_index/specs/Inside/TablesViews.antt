-- Of the tables alone: what the views lend.
use Rattle.std.specs.Prelude.{◌≡◌, ℕ, Bool, true, not, ◌&&◌, List, [], map, filter, nat_eq, None, IsSome, unwrap_or}
use Rattle.std.specs.List.{AllByRecursion, list_any, starts_with}
use Rattle.std.specs.List.Sorted.{IsStrictlySortedBy}
use Rattle.std.specs.FinMap as fin
use Rattle.std.specs.Ordering.{nat_cmp, is_le}
use Rattle.std.specs.Cmp.Lexicographic.{slice_cmp}
use Rattle.ctl_relation.specs.Parts.{OfferParts}
use Rattle.ctl_store.specs.declared.stanza_key.StanzaKey.{StanzaKey}
use Rattle.ctl_store.specs.Store.{Held}
use Rattle.ctl_index.specs.declared.keys.OfferKey.{OfferKey}
use Rattle.ctl_index.specs.Inside.NameMap.{NamedEntry, entry_names}
use Rattle.ctl_index.specs.declared.named.Named.{Named}
use Rattle.ctl_policy.specs.declared.chosen.Chosen.{Chosen}
use Rattle.ctl_policy.specs.Rows.{newest_first, keys_of_row}
use Rattle.ctl_index.specs.Inside.TablesByName.{named_offers, named_own}
use Rattle.ctl_index.specs.Inside.TablesPending.{offer_seen, in_store}

-- the offer under a key, with the key of its stanza
abbrev pub offer_found : Held → OfferKey → StanzaKey × OfferParts
offer_found h k = (k.stanza, unwrap_or (offer_seen (in_store h) k) (record { name = []; version = None }))

-- each has an offer
abbrev pub AreFound : Held → List OfferKey → Type 0
AreFound h keys = AllByRecursion (λ k. IsSome (offer_seen (in_store h) k)) keys

-- ---- the names of packages

-- whether an offer is the package of its stanza: that is the first of what a stanza offers
abbrev pub is_own : OfferKey → Bool
is_own key = nat_eq key.place 0

-- whether a name has an offer of that kind
abbrev pub has_own : Named → Bool
has_own named = list_any is_own (named_offers named)

-- the rows that stand under a name, newest first, each by the keys of its stanzas
abbrev pub shown_rows : Named → List (List StanzaKey)
shown_rows named = map keys_of_row (newest_first (named_own named).rows)

abbrev pub entry_rows : NamedEntry → List (List StanzaKey)
entry_rows e = shown_rows e.1

-- whether a name has a row
abbrev pub has_rows : Named → Bool
has_rows named = not (nat_eq (fin.len (named_own named).rows) 0)

-- the entries of the names that have a row
abbrev pub with_rows : List NamedEntry → List NamedEntry
with_rows entries = filter (λ (e : NamedEntry). has_rows e.1) entries

-- a name with what is chosen of it
abbrev pub entry_chosen : NamedEntry → List ℕ × Chosen
entry_chosen e = (e.0, (named_own e.1).chosen)

-- the stanzas that offer a name, by their keys
abbrev pub offering : List OfferKey → List StanzaKey
offering keys = map (λ (k : OfferKey). k.stanza) keys

-- the names that begin with a prefix, of packages
abbrev pub packages_with : List ℕ → List NamedEntry → List (List ℕ)
packages_with prefix entries = entry_names (filter (λ (e : NamedEntry). starts_with nat_eq e.0 prefix && has_own e.1) entries)

-- names in order, none of them before the prefix
pub record AreFrom (prefix : List ℕ) (names : List (List ℕ)) : Type 0 where
  pub order : IsStrictlySortedBy (slice_cmp nat_cmp) names
  pub from : AllByRecursion (λ name. is_le (slice_cmp nat_cmp prefix name) ≡ true) names
