-- A name has a row where one of its offers is that of its package.
use Rattle.std.proofs.Common.{◌≡◌, ◌∙◌, ℕ, Bool, true, false, not, ◌&&◌, ◌||◌, List, [], ◌∷◌, length, map, Option, None, Some, is_some, refl, sym, ap, Ordering, Less, Equal, Greater, arith}
use Rattle.std.specs.FinMap as fin
use Rattle.std.specs.FinMap.Entries.{by_order, put}
use Rattle.std.specs.List.{list_any, filter}
use Rattle.std.specs.List.Sorted.{IsPermutation}
use Rattle.std.specs.Option.{option_map_or}
use Rattle.std.specs.Str.{bytes_eq}
use Rattle.std.proofs.lemmas.List.{length-reverse, length-map, nil_from_length}
use Rattle.std.proofs.lemmas.List.Folds.{list_any-append}
use Rattle.std.proofs.lemmas.List.Sorted.{list_any-IsPermutation}
use Rattle.ctl_relation.specs.Orders.Versions.{version_total}
use Rattle.ctl_relation.specs.Parts.{OfferParts}
use Rattle.ctl_relation.specs.Version.{triple_of, version_cmp}
use Rattle.ctl_stanza.specs.Content.{Content, package_of, is_live, offers_of}
use Rattle.ctl_store.specs.declared.stanza_key.StanzaKey.{StanzaKey}
use Rattle.ctl_store.specs.Entries.{Entry, AreAt}
use Rattle.ctl_store.specs.Store.{Held, keyed_of}
use Rattle.ctl_store.specs.Keys.{stanza_at}
use Rattle.ctl_index.specs.HeldCache.{standing}
use Rattle.ctl_index.specs.Offers.{offers_named}
use Rattle.ctl_policy.specs.Priority.{world_of}
use Rattle.ctl_policy.specs.Rows.{Row, keys_at, rows_of, rows_named, version_in, versions_of, newest_first, is_any_row}
use Rattle.ctl_query.specs.Packages.{is_none_of, has_row}
use Rattle.ctl_query.specs.Providers.{makes_row, makes_row_at}

-- ---- rows of stanzas

abbrev shown : List ℕ × List StanzaKey → Row
shown row = (triple_of row.0, row.1)

any_row : (rows : List Row) (es : List (List ℕ × List StanzaKey)) → length rows ≡ length es → is_any_row rows ≡ not (is_none_of es)
any_row [] [] h = refl
any_row (row ∷ rows) (e ∷ es) h = refl
any_row [] (e ∷ es) h = absurd (omega (arith, h))
any_row (row ∷ rows) [] h = absurd (omega (arith, h))

put_some : (v : List ℕ) (keys : List StanzaKey) (es : List (List ℕ × List StanzaKey)) → is_none_of (put version_cmp v keys es) ≡ false
put_some v keys [] = refl
put_some v keys (e ∷ es) = by (version_cmp v e.0)
  where
    by : (o : Ordering) → is_none_of (by_order o ((v, keys) ∷ e ∷ es) ((e.0, keys) ∷ es) (e ∷ put version_cmp v keys es)) ≡ false
    by Less = refl
    by Equal = refl
    by Greater = refl

rows_some : (vs : List (StanzaKey × List ℕ)) → is_none_of (fin.entries (rows_of vs)) ≡ is_none_of vs
rows_some [] = ap is_none_of (nil_from_length (fin.entries (rows_of [])) (sym (fin.len-entries (rows_of [])) ∙ fin.len-empty version_cmp (List StanzaKey)))
rows_some (s ∷ ss) = ap is_none_of (fin.entries-insert version_total (rows_of ss) s.1 (s.0 ∷ keys_at (rows_of ss) s.1)) ∙ put_some s.1 (s.0 ∷ keys_at (rows_of ss) s.1) (fin.entries (rows_of ss))

-- ---- offers of stanzas

module _ (store : Held) (name : List ℕ) where
  abbrev named : List OfferParts → List OfferParts
  named offers = filter (λ (offer : OfferParts). bytes_eq offer.name name) offers

  abbrev any : List (StanzaKey × OfferParts) → Bool
  any offers = list_any (makes_row_at store name) offers

  all_same : (key : StanzaKey) (stanza : Content) (offers : List OfferParts) → stanza_at key (keyed_of store).lists ≡ Some stanza →
      any (map (λ (offer : OfferParts). (key, offer)) offers) ≡ (makes_row name stanza && not (is_none_of offers))
  all_same key stanza [] at = by (makes_row name stanza)
    where
      by : (b : Bool) → false ≡ (b && false)
      by true = refl
      by false = refl
  all_same key stanza (offer ∷ offers) at =
      ap (λ (o : Option Content). option_map_or (makes_row name) o false || any (map (λ (offer : OfferParts). (key, offer)) offers)) at
      ∙ ap (λ b. makes_row name stanza || b) (all_same key stanza offers at) ∙ by (makes_row name stanza) (not (is_none_of offers))
    where
      by : (b d : Bool) → (b || (b && d)) ≡ (b && true)
      by true d = refl
      by false d = refl

  -- a live stanza of the name offers it
  and_own : (stanza : Content) → (makes_row name stanza && not (is_none_of (named (offers_of stanza)))) ≡ makes_row name stanza
  and_own stanza = by (bytes_eq (package_of stanza) name) (is_live stanza) refl refl
    where
      and_true : (b : Bool) → (b && true) ≡ b
      and_true true = refl
      and_true false = refl

      by : (b d : Bool) → bytes_eq (package_of stanza) name ≡ b → is_live stanza ≡ d → (makes_row name stanza && not (is_none_of (named (offers_of stanza)))) ≡ makes_row name stanza
      by true true e live = rw (live, e) (and_true _)
      by true false e live = rw (e, live) refl
      by false d e live = rw e refl

  of_entries : (es : List Entry) → AreAt es (keyed_of store).lists → any (offers_named name es) ≡ not (is_none_of (versions_of name es))
  of_entries [] at = refl
  of_entries (e ∷ es) at =
      list_any-append (makes_row_at store name) (map (λ (offer : OfferParts). (e.0, offer)) (named (offers_of e.1))) (offers_named name es)
      ∙ ap (λ b. b || any (offers_named name es)) (all_same e.0 e.1 (named (offers_of e.1)) at.0 ∙ and_own e.1)
      ∙ ap (λ b. makes_row name e.1 || b) (of_entries es at.1) ∙ by (version_in name e.1)
    where
      by : (o : Option (List ℕ)) → (is_some o || not (is_none_of (versions_of name es))) ≡ not (is_none_of (option_map_or (λ (v : List ℕ). (e.0, v) ∷ versions_of name es) o (versions_of name es)))
      by None = refl
      by (Some v) = refl

-- A name has a row exactly if an offer of it is of a live stanza of this name.
pub row_by_offers : (store : Held) (name : List ℕ) (offers : List (StanzaKey × OfferParts)) → AreAt (standing store) (keyed_of store).lists →
    IsPermutation (offers_named name (standing store)) offers → list_any (makes_row_at store name) offers ≡ has_row (world_of store) name
row_by_offers store name offers at are =
    let lists = (keyed_of store).lists in
    let es = fin.entries (rows_named name lists) in
    sym (list_any-IsPermutation (makes_row_at store name) (offers_named name (standing store)) offers are)
    ∙ of_entries store name (standing store) at ∙ ap not (sym (rows_some (versions_of name (standing store))))
    ∙ sym (any_row (newest_first (rows_named name lists)) es (length-reverse (map shown es) ∙ length-map es shown))

or_moved : (a b c : Bool) → (b || (c || a)) ≡ ((a || b) || c)
or_moved true true c = refl
or_moved true false true = refl
or_moved true false false = refl
or_moved false true c = refl
or_moved false false true = refl
or_moved false false false = refl

-- one offer more is done
pub one_row_more : (store : Held) (name : List ℕ) (key : StanzaKey) (offer : OfferParts) (stanza : Content) (its rest : List (StanzaKey × OfferParts)) (old new all : Bool) →
    its ≡ (key, offer) ∷ rest → Some stanza ≡ stanza_at key (keyed_of store).lists → new ≡ (old || makes_row name stanza) →
    (list_any (makes_row_at store name) its || old) ≡ all → (list_any (makes_row_at store name) rest || new) ≡ all
one_row_more store name key offer stanza its rest old new all are is grown before =
    let any : List (StanzaKey × OfferParts) → Bool = list_any (makes_row_at store name) in
    ap (λ b. any rest || b) grown ∙ or_moved (makes_row name stanza) (any rest) old
    ∙ ap (λ (o : Option Content). (option_map_or (makes_row name) o false || any rest) || old) is
    ∙ ap (λ xs. any xs || old) (sym are) ∙ before
