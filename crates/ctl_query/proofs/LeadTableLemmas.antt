-- The places of leads, found by their keys.
use Rattle.std.proofs.Common.{◌≡◌, ◌∙◌, ◌+◌, ◌<◌, ◌≤◌, ℕ, zero, suc, true, List, [], ◌∷◌, ◌++◌, length, take, get_or, slice_get, Option, None, Some, option_map, refl, sym, ap, arith, Bor}
use Rattle.std.specs.BTreeMap.{is_at}
use Rattle.std.specs.Cmp.{IsTotalOrder, Equal-is, nat_cmp_total}
use Rattle.std.specs.List.{HoldsAt}
use Rattle.std.specs.List.Sorted.{IsPermutation, IsPartitionPoint, IsNonDecreasingBy}
use Rattle.std.specs.Map.{keys_of}
use Rattle.std.specs.Ordering.{nat_cmp, ordering_then, ordering_reverse, ordering_index, is_lt}
use Rattle.std.specs.declared.cmp.Ordering.{Ordering}
use Rattle.std.specs.declared.cmp.Ordering.TheVariants.{Less, Equal, Greater}
use Rattle.std.proofs.lemmas.Cmp.{on_total, then_total, eq_by_cmp_equiv, ranked}
use Rattle.std.proofs.lemmas.List.{take_more}
use Rattle.std.proofs.lemmas.List.Sorted.{Contains-permutation, IsPermutation-sym, searchable_from_sorted}
use Rattle.std.proofs.lemmas.Map.Entries.{lookup_from_place, place_from_lookup, lookup_at_gap}
use Rattle.std.proofs.lemmas.Map.Keys.{sorted_from_all_adjacent, Less-from_sorted, IsDistinct-from_sorted}
use Rattle.std.proofs.lemmas.Option.{slice_get_within, get_or_from_slice_get, slice_get-get_or}
use Rattle.ctl_stanza.specs.Content.{Content}
use Rattle.ctl_store.specs.declared.stanza_key.StanzaKey.{StanzaKey}
use Rattle.ctl_store.specs.Entries.{Entry}
use Rattle.ctl_store.specs.Keys.{key_cmp}
use Rattle.ctl_query.proofs.RisingLemmas.{less_where}
use Rattle.ctl_query.specs.Leads.{key_at}
use Rattle.ctl_query.specs.LeadTable.{lent_leads, place_under, numbered_from, AreInKeyOrder, ArePlaces}

-- ---- two keys

pub keys_total : IsTotalOrder key_cmp
keys_total = then_total (on_total (λ (k : StanzaKey). k.list) nat_cmp_total) (on_total (λ (k : StanzaKey). k.stanza) nat_cmp_total)

and_then : (o p : Ordering) → ordering_then o p ≡ Equal → (o ≡ Equal) × (p ≡ Equal)
and_then Less p e = cc
and_then Equal p e = (refl, e)
and_then Greater p e = cc

pub same_key : (k x : StanzaKey) → key_cmp k x ≡ Equal → k ≡ x
same_key k x e =
    let h = and_then (nat_cmp k.list x.list) (nat_cmp k.stanza x.stanza) e in
    let list : k.list ≡ x.list = ranked k.list x.list Equal (sym h.0) in
    let stanza : k.stanza ≡ x.stanza = ranked k.stanza x.stanza Equal (sym h.1) in
    λ i. record { list = list i; stanza = stanza i }

-- ---- a search

key_read : (places : List (StanzaKey × ℕ)) (i : ℕ) (d : StanzaKey × ℕ) → get_or (keys_of places) i d.0 ≡ (get_or places i d).0
key_read [] i d = refl
key_read (p ∷ places) zero d = refl
key_read (p ∷ places) (suc i) d = key_read places i d

keys_long : (places : List (StanzaKey × ℕ)) → length (keys_of places) ≡ length places
keys_long [] = refl
keys_long (p ∷ places) = ap suc (keys_long places)

-- neighbours that rise
pub rising_from : (places : List (StanzaKey × ℕ)) (d : StanzaKey × ℕ) → ((k : ℕ) → k + 1 < length places → is_lt (key_cmp (get_or places k d).0 (get_or places (k + 1) d).0) ≡ true) → AreInKeyOrder places
rising_from places d each = sorted_from_all_adjacent keys_total (keys_of places) d.0 (λ k l.
    (λ i. key_cmp (key_read places k d i) (key_read places (k + 1) d i)) ∙ less_where _ (each k (omega (arith, l, keys_long places))))

module _ (places : List (StanzaKey × ℕ)) (rising : AreInKeyOrder places) where
  below : (i j : ℕ) (d : StanzaKey × ℕ) → i < j → j < length places → key_cmp (get_or places i d).0 (get_or places j d).0 ≡ Less
  below i j d a b = (λ n. key_cmp (sym (key_read places i d) n) (sym (key_read places j d) n)) ∙ Less-from_sorted key_cmp (keys_of places) i j d.0 rising a (omega (arith, b, keys_long places))

  searchable : (key : StanzaKey) → IsNonDecreasingBy (λ (p : StanzaKey × ℕ). ordering_index (key_cmp p.0 key)) places
  searchable key = searchable_from_sorted keys_total (λ (p : StanzaKey × ℕ). p.0) places key (λ k d a b.
      ap is_lt (keys_total.antisymm (get_or places (k + 1) d).0 (get_or places k d).0 ∙ ap ordering_reverse (below k (k + 1) d (omega arith) b)))

  under_from : (i : ℕ) (key : StanzaKey) (place : ℕ) → slice_get places i ≡ Some (key, place) → place_under key places ≡ Some place
  under_from i key place = lookup_from_place (eq_by_cmp_equiv keys_total) places i key place (IsDistinct-from_sorted key_cmp (keys_of places) rising)

  pub found : (key : StanzaKey) (i : ℕ) (d : StanzaKey × ℕ) → i < length places → HoldsAt (λ (p : StanzaKey × ℕ). key_cmp p.0 key ≡ Equal) places i → Some (get_or places i d).1 ≡ place_under key places
  found key i d within same =
      let p = get_or places i d in
      sym (under_from i key p.1 (slice_get-get_or places i d within ∙ ap (λ k. Some (k, p.1)) (same_key p.0 key (same d))))

  pub not_found : (key : StanzaKey) (i : ℕ) → (IsNonDecreasingBy (λ (p : StanzaKey × ℕ). ordering_index (key_cmp p.0 key)) places → IsPartitionPoint (λ (p : StanzaKey × ℕ). key_cmp p.0 key ≡ Less) (λ (p : StanzaKey × ℕ). key_cmp p.0 key ≡ Greater) places i) → None ≡ place_under key places
  not_found key i parted =
      let point = parted (searchable key) in
      sym (lookup_at_gap keys_total key places i rising
      (λ j e l at. keys_total.antisymm key e.0 ∙ ap ordering_reverse (ap (λ (p : StanzaKey × ℕ). key_cmp p.0 key) (sym (get_or_from_slice_get places j e e at)) ∙ point.0 j e (omega arith) l))
      (λ e at. keys_total.antisymm key e.0 ∙ ap ordering_reverse (ap (λ (p : StanzaKey × ℕ). key_cmp p.0 key) (sym (get_or_from_slice_get places i e e at)) ∙ point.1 i e (omega arith) (slice_get_within places i e at))))

-- ---- the places of all leads

numbered-push : (n : ℕ) (es : List Entry) (e : Entry) → numbered_from n (es ++ e ∷ []) ≡ numbered_from n es ++ (e.0, n + length es) ∷ []
numbered-push n [] e = ap (λ (m : ℕ). (e.0, m) ∷ []) (omega arith)
numbered-push n (x ∷ es) e = ap (λ ps. (x.0, n) ∷ ps) (numbered-push (n + 1) es e ∙ ap (λ (m : ℕ). numbered_from (n + 1) es ++ (e.0, m) ∷ []) (omega arith))

pub lent-push : (xs : List (StanzaKey × Bor Content)) (x : StanzaKey × Bor Content) → lent_leads (xs ++ x ∷ []) ≡ lent_leads xs ++ (x.0, x.1.now) ∷ []
lent-push [] x = refl
lent-push (y ∷ xs) x = ap (λ ys. (y.0, y.1.now) ∷ ys) (lent-push xs x)

pub lent_taken : (i : ℕ) (xs : List (StanzaKey × Bor Content)) → i ≤ length xs → length (lent_leads (take i xs)) ≡ i
lent_taken zero xs l = refl
lent_taken (suc i) [] l = absurd (omega arith)
lent_taken (suc i) (x ∷ xs) l = ap suc (lent_taken i xs (omega arith))

-- one lead more
pub numbered_more : (leads : List (StanzaKey × Bor Content)) (i : ℕ) (d : StanzaKey × Bor Content) → i < length leads →
    numbered_from 0 (lent_leads (take (i + 1) leads)) ≡ numbered_from 0 (lent_leads (take i leads)) ++ ((get_or leads i d).0, i) ∷ []
numbered_more leads i d l =
    let x = get_or leads i d in
    ap (λ xs. numbered_from 0 (lent_leads xs)) (take_more leads i d l)
    ∙ ap (numbered_from 0) (lent-push (take i leads) x)
    ∙ numbered-push 0 (lent_leads (take i leads)) (x.0, x.1.now)
    ∙ ap (λ (m : ℕ). numbered_from 0 (lent_leads (take i leads)) ++ (x.0, m) ∷ []) (omega (arith, lent_taken i leads (omega arith)))

numbered_at : (n : ℕ) (es : List Entry) (i : ℕ) → slice_get (numbered_from n es) i ≡ option_map (λ (k : StanzaKey). (k, n + i)) (key_at es i)
numbered_at n [] i = refl
numbered_at n (e ∷ es) zero = ap (λ (m : ℕ). Some (e.0, m)) (omega arith)
numbered_at n (e ∷ es) (suc i) = numbered_at (n + 1) es i ∙ ap (λ (m : ℕ). option_map (λ (k : StanzaKey). (k, m)) (key_at es i)) (omega arith)

-- the places of leads in the order of their keys
pub are_places : (leads : List Entry) (places : List (StanzaKey × ℕ)) → IsPermutation (numbered_from 0 leads) places → AreInKeyOrder places → ArePlaces leads places
are_places leads places moved rising = record { rising = rising; there = there; no_other = no_other }
  where
    numbered : (i : ℕ) → slice_get (numbered_from 0 leads) i ≡ option_map (λ (k : StanzaKey). (k, i)) (key_at leads i)
    numbered i = numbered_at 0 leads i ∙ ap (λ (m : ℕ). option_map {U = StanzaKey × ℕ} (λ (k : StanzaKey). (k, m)) (key_at leads i)) (omega arith)

    there : (i : ℕ) (k : StanzaKey) → key_at leads i ≡ Some k → place_under k places ≡ Some i
    there i k e =
        let at : slice_get (numbered_from 0 leads) i ≡ Some (k, i) = numbered i ∙ ap (option_map {U = StanzaKey × ℕ} (λ (k : StanzaKey). (k, i))) e in
        let has = Contains-permutation (numbered_from 0 leads) places (k, i) moved (i, slice_get_within (numbered_from 0 leads) i (k, i) at, get_or_from_slice_get (numbered_from 0 leads) i (k, i) (k, i) at) in
        under_from places rising has.0 k i (slice_get-get_or places has.0 (k, i) has.1 ∙ ap Some has.2)

    read : (j i : ℕ) (k : StanzaKey) (o : Option StanzaKey) → option_map {U = StanzaKey × ℕ} (λ (k : StanzaKey). (k, j)) o ≡ Some (k, i) → (o ≡ Some k) × (j ≡ i)
    read j i k None e = cc
    read j i k (Some q) e =
        let both : ◌≡◌ {A = StanzaKey × ℕ} (q, j) (k, i) = cc in
        (ap (λ (p : StanzaKey × ℕ). Some p.0) both, ap (λ (p : StanzaKey × ℕ). p.1) both)

    no_other : (i : ℕ) (k : StanzaKey) → place_under k places ≡ Some i → key_at leads i ≡ Some k
    no_other i k e =
        let at = place_from_lookup (is_at (key_cmp k)) places i e in
        let q = at.1 in
        let same : k ≡ q = same_key k q ((Equal-is (key_cmp k q)).0 at.3) in
        let has = Contains-permutation places (numbered_from 0 leads) (q, i) (IsPermutation-sym (numbered_from 0 leads) places moved) (at.0, slice_get_within places at.0 (q, i) at.2, get_or_from_slice_get places at.0 (q, i) (q, i) at.2) in
        let is = read has.0 i q (key_at leads has.0) (sym (numbered has.0) ∙ slice_get-get_or (numbered_from 0 leads) has.0 (q, i) has.1 ∙ ap Some has.2) in
        ap (key_at leads) (sym is.1) ∙ is.0 ∙ ap Some (sym same)
