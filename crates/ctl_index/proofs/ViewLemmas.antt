-- What the tables list is what the definitions say.
use Rattle.std.proofs.Common.{◌≡◌, ℕ, suc, ◌+◌, Bool, true, false, cond, nat_eq, ◌&&◌, List, [], ◌∷◌, ◌++◌, map, filter, drop, Option, Some, None, IsSome, is_some, unwrap_or, refl, ap, sym, subst, ◌∙◌, arith}
use Rattle.std.specs.Prelude.{slice_get}
use Rattle.std.specs.List.{sum_by, flat_map, AllByRecursion}
use Rattle.std.specs.List.Sorted.{IsPermutation}
use Rattle.std.specs.Option.{option_map, option_and_then}
use Rattle.std.specs.Str.{bytes_eq}
use Rattle.std.proofs.lemmas.Bool.{true≢false}
use Rattle.std.proofs.lemmas.List.{map-append}
use Rattle.std.proofs.lemmas.List.Sums.{sum_by-cons}
use Rattle.std.proofs.lemmas.List.Sorted.{IsPermutation-map}
use Rattle.ctl_relation.specs.FieldKind.{field_place}
use Rattle.ctl_relation.specs.Parts.{AtomParts, OfferParts}
use Rattle.ctl_stanza.specs.Content.{Content, offers_of}
use Rattle.ctl_store.specs.declared.stanza_key.StanzaKey.{StanzaKey}
use Rattle.ctl_store.specs.Keys.{key_is, AreHeld, stanza_at}
use Rattle.ctl_store.specs.Entries.{Entry}
use Rattle.ctl_store.specs.Store.{Held, keyed_of}
use Rattle.ctl_index.specs.declared.keys.AtomKey.{AtomKey}
use Rattle.ctl_index.specs.declared.keys.ClauseKey.{ClauseKey}
use Rattle.ctl_index.specs.declared.keys.OfferKey.{OfferKey}
use Rattle.ctl_index.specs.declared.tables.Tables.{Tables}
use Rattle.ctl_index.specs.Clauses.{clause_at, number_at}
use Rattle.ctl_index.specs.Names.{keyed_atoms, namers_named}
use Rattle.ctl_index.specs.Offers.{offers_named}
use Rattle.ctl_index.specs.Inside.TablesByName.{offers_under, namers_under}
use Rattle.ctl_index.specs.Inside.TablesIndexed.{IsIndexed, keyed_offers, keyed_offers_from, offer_named, atom_named}
use Rattle.ctl_index.specs.Inside.TablesOrder.{namer_key}
use Rattle.ctl_index.specs.Inside.TablesPending.{seen, offer_seen, in_store, AreSeen}
use Rattle.ctl_index.specs.Inside.TablesViews.{offer_found, AreFound}
use Rattle.ctl_index.proofs.ClauseLemmas.{same_field, nat_eq-is, nat_eq-refl}
use Rattle.ctl_index.proofs.CounterLemmas.{exact_field}
use Rattle.ctl_index.proofs.PermutationLemmas.{permutation_of_sums}
use Rattle.ctl_index.proofs.SeenLemmas.{at_drop, key_is-same, all_seen_offers}
use Rattle.ctl_index.proofs.StoreLemmas.{key_is-own}
use Rattle.ctl_index.proofs.SumLemmas.{sum-cong, sum-zero, sum-none, sum-flat_map, sum-map, sum-filter}
use Rattle.ctl_index.proofs.TableLemmas.{own_atoms, all_map}

-- ---- keys that are the same

pub and_true : (a b : Bool) → (a && b) ≡ true → (a ≡ true) × (b ≡ true)
and_true true b h = (refl, h)
and_true false b h = absurd (true≢false (sym h))

pub both_true : (a b : Bool) → a ≡ true → b ≡ true → (a && b) ≡ true
both_true a b h k = λ i. and_ab i
  where
    and_ab : (a && b) ≡ true
    and_ab = ap (λ c. c && b) h ∙ k

abbrev pub atom_same : AtomKey → AtomKey → Bool
atom_same a b = key_is a.stanza b.stanza && (same_field a.field b.field && (nat_eq a.group b.group && nat_eq a.atom b.atom))

pub atom_exact : (a b : AtomKey) → atom_same a b ≡ true → a ≡ b
atom_exact a b h =
    let one = and_true (key_is a.stanza b.stanza) _ h in
    let two = and_true (same_field a.field b.field) _ one.1 in
    let three = and_true (nat_eq a.group b.group) _ two.1 in
    let stanza = key_is-same a.stanza b.stanza one.0 in
    let field = exact_field a.field b.field (nat_eq-is (field_place a.field) (field_place b.field) two.0) in
    let group = nat_eq-is a.group b.group three.0 in
    let atom = nat_eq-is a.atom b.atom three.1 in
    λ i. record { stanza = stanza i; field = field i; group = group i; atom = atom i }

pub atom_own : (a : AtomKey) → atom_same a a ≡ true
atom_own a = λ i. key_is-own a.stanza i && (nat_eq-refl (field_place a.field) i && (nat_eq-refl a.group i && nat_eq-refl a.atom i))

abbrev offer_same : OfferKey → OfferKey → Bool
offer_same a b = key_is a.stanza b.stanza && nat_eq a.place b.place

offer_exact : (a b : OfferKey) → offer_same a b ≡ true → a ≡ b
offer_exact a b h =
    let one = and_true (key_is a.stanza b.stanza) _ h in
    let stanza = key_is-same a.stanza b.stanza one.0 in
    let place = nat_eq-is a.place b.place one.1 in
    λ i. record { stanza = stanza i; place = place i }

offer_own : (a : OfferKey) → offer_same a a ≡ true
offer_own a = λ i. key_is-own a.stanza i && nat_eq-refl a.place i

-- what fails nowhere
all_pass : {X : Type 0} (p : X → Bool) (xs : List X) → sum_by (λ x. cond (p x) 0 1) xs ≡ 0 → AllByRecursion (λ x. p x ≡ true) xs
all_pass p [] h = tt
all_pass p (x ∷ xs) h = by (p x) refl (sym (sum_by-cons (λ y. cond (p y) 0 1) x xs) ∙ h) (all_pass p xs)
  where
    by : (b : Bool) → p x ≡ b → cond b 0 1 + sum_by (λ y. cond (p y) 0 1) xs ≡ 0 → (sum_by (λ y. cond (p y) 0 1) xs ≡ 0 → AllByRecursion (λ y. p y ≡ true) xs) → (p x ≡ true) × AllByRecursion (λ y. p y ≡ true) xs
    by true is e rest = (is, rest (omega (arith, e)))
    by false is e rest = absurd (omega (arith, e))

zero_either : (b : Bool) → ◌≡◌ {A = ℕ} (cond b 0 0) 0
zero_either true = refl
zero_either false = refl

-- ---- the atoms that name a name

module _ (h : Held) (es : List Entry) (t : Tables) (was : IsIndexed es t) (sees : AreSeen (in_store h) es) (q : List ℕ) where
  -- the keys of those that the tables list
  abbrev pub namer_keys : List AtomKey
  namer_keys = map namer_key (namers_under t.names.map q)

  keys-sum : (f : AtomKey → ℕ) → sum_by f namer_keys ≡ sum_by (λ (e : Entry). sum_by (atom_named q (λ n. f (namer_key n))) (keyed_atoms e)) es
  keys-sum f = sum-map f namer_key (namers_under t.names.map q) ∙ was.namers q (λ n. f (namer_key n))

  namers-sum : (f : AtomKey → ℕ) → sum_by f (namers_named q es) ≡ sum_by (λ (e : Entry). sum_by (atom_named q (λ n. f (namer_key n))) (keyed_atoms e)) es
  namers-sum f =
      let named : AtomKey × AtomParts → Bool = λ y. bytes_eq y.1.name q in
      sum-flat_map f (λ (e : Entry). map (λ (y : AtomKey × AtomParts). y.0) (filter named (keyed_atoms e))) es
      ∙ sum-cong _ _ (λ (e : Entry). sum-map f (λ (y : AtomKey × AtomParts). y.0) (filter named (keyed_atoms e)) ∙ sum-filter named (λ (y : AtomKey × AtomParts). f y.0) (keyed_atoms e)) es

  pub namers_permuted : IsPermutation (namers_named q es) namer_keys
  namers_permuted = permutation_of_sums atom_same atom_exact atom_own (namers_named q es) namer_keys (λ f. namers-sum f ∙ sym (keys-sum f))

  -- each is of a stanza that is there
  pub namers_held : AllByRecursion (λ (k : AtomKey). is_some (stanza_at k.stanza (keyed_of h).lists) ≡ true) namer_keys
  namers_held =
      let there : StanzaKey → Bool = λ s. is_some (stanza_at s (keyed_of h).lists) in
      all_pass (λ (k : AtomKey). there k.stanza) namer_keys
      (keys-sum (λ k. cond (there k.stanza) 0 1)
      ∙ sum-none (λ (e : Entry). sum_by (atom_named q (λ n. cond (there n.stanza) 0 1)) (keyed_atoms e)) es
      (all_map (λ (e : Entry). seen (in_store h) e.0 ≡ Some e.1) (λ (e : Entry). sum_by (atom_named q (λ n. cond (there n.stanza) 0 1)) (keyed_atoms e) ≡ 0) es
      (λ e here.
      own_atoms (λ s y. cond (bytes_eq y.1.name q) (cond (there s) 0 1) 0) e.0 e.1
      ∙ ap (λ b. sum_by (λ (y : AtomKey × AtomParts). cond (bytes_eq y.1.name q) (cond b 0 1) 0) (keyed_atoms e)) (ap is_some here)
      ∙ sum-cong _ _ (λ (y : AtomKey × AtomParts). zero_either (bytes_eq y.1.name q)) (keyed_atoms e) ∙ sum-zero (keyed_atoms e)) sees))

  -- ---- the offers of a name

  abbrev offer_keys : List Entry → List OfferKey
  offer_keys ds = flat_map (λ (e : Entry). map (λ (y : OfferKey × OfferParts). y.0) (filter (λ (y : OfferKey × OfferParts). bytes_eq y.1.name q) (keyed_offers e))) ds

  offers-sum : (f : OfferKey → ℕ) → sum_by f (offer_keys es) ≡ sum_by (λ (e : Entry). sum_by (offer_named q f) (keyed_offers e)) es
  offers-sum f =
      let named : OfferKey × OfferParts → Bool = λ y. bytes_eq y.1.name q in
      sum-flat_map f (λ (e : Entry). map (λ (y : OfferKey × OfferParts). y.0) (filter named (keyed_offers e))) es
      ∙ sum-cong _ _ (λ (e : Entry). sum-map f (λ (y : OfferKey × OfferParts). y.0) (filter named (keyed_offers e)) ∙ sum-filter named (λ (y : OfferKey × OfferParts). f y.0) (keyed_offers e)) es

  -- the offers of one stanza
  found_of : (key : StanzaKey) (x : Content) → seen (in_store h) key ≡ Some x → (n : ℕ) (os : List OfferParts) → drop n (offers_of x) ≡ os
      → map (offer_found h) (map (λ (y : OfferKey × OfferParts). y.0) (filter (λ (y : OfferKey × OfferParts). bytes_eq y.1.name q) (keyed_offers_from key n os))) ≡ map (λ (o : OfferParts). (key, o)) (filter (λ (o : OfferParts). bytes_eq o.name q) os)
  found_of key x here n [] d = refl
  found_of key x here n (o ∷ os) d = by (bytes_eq o.name q) (found_of key x here (suc n) os one.1)
    where
      one : (slice_get (offers_of x) n ≡ Some o) × (drop (suc n) (offers_of x) ≡ os)
      one = at_drop n (offers_of x) o os d

      k : OfferKey
      k = record { stanza = key; place = n }

      is : offer_seen (in_store h) k ≡ Some o
      is = ap (option_and_then (λ c. slice_get (offers_of c) n)) here ∙ one.0

      by : (b : Bool) → map (offer_found h) (map (λ (y : OfferKey × OfferParts). y.0) (filter (λ (y : OfferKey × OfferParts). bytes_eq y.1.name q) (keyed_offers_from key (suc n) os))) ≡ map (λ (p : OfferParts). (key, p)) (filter (λ (p : OfferParts). bytes_eq p.name q) os)
          → map (offer_found h) (map (λ (y : OfferKey × OfferParts). y.0) (cond b ((k, o) ∷ filter (λ (y : OfferKey × OfferParts). bytes_eq y.1.name q) (keyed_offers_from key (suc n) os)) (filter (λ (y : OfferKey × OfferParts). bytes_eq y.1.name q) (keyed_offers_from key (suc n) os))))
          ≡ map (λ (p : OfferParts). (key, p)) (cond b (o ∷ filter (λ (p : OfferParts). bytes_eq p.name q) os) (filter (λ (p : OfferParts). bytes_eq p.name q) os))
      by true rest = λ i. (key, unwrap_or (is i) (record { name = []; version = None })) ∷ rest i
      by false rest = rest

  found_all : (ds : List Entry) → AreSeen (in_store h) ds → map (offer_found h) (offer_keys ds) ≡ offers_named q ds
  found_all [] s = refl
  found_all (e ∷ ds) s =
      map-append (offer_found h) (map (λ (y : OfferKey × OfferParts). y.0) (filter (λ (y : OfferKey × OfferParts). bytes_eq y.1.name q) (keyed_offers e))) (offer_keys ds)
      ∙ (λ i. found_of e.0 e.1 s.0 0 (offers_of e.1) refl i ++ found_all ds s.1 i)

  pub offers_permuted : IsPermutation (offers_named q es) (map (offer_found h) (offers_under t.names.map q))
  offers_permuted =
      subst (λ os. IsPermutation os (map (offer_found h) (offers_under t.names.map q))) (found_all es sees)
      (IsPermutation-map (offer_found h) (offer_keys es) (offers_under t.names.map q)
      (permutation_of_sums offer_same offer_exact offer_own (offer_keys es) (offers_under t.names.map q) (λ f. offers-sum f ∙ sym (was.offers q f))))

  pub offers_found : AreFound h (offers_under t.names.map q)
  offers_found =
      all_pass (λ (k : OfferKey). is_some (offer_seen (in_store h) k)) (offers_under t.names.map q)
      (was.offers q (λ k. cond (is_some (offer_seen (in_store h) k)) 0 1)
      ∙ all_seen_offers (in_store h) (λ k found o. cond (bytes_eq o.name q) (cond (is_some found) 0 1) 0) es sees
      ∙ sum-cong _ _ (λ (e : Entry). sum-cong _ _ (λ (y : OfferKey × OfferParts). zero_either (bytes_eq y.1.name q)) (keyed_offers e) ∙ sum-zero (keyed_offers e)) es ∙ sum-zero es)

-- an offer that is there is of a stanza that is there
seen_held : (h : Held) (k : OfferKey) → IsSome (offer_seen (in_store h) k) → IsSome (stanza_at k.stanza (keyed_of h).lists)
seen_held h k some = by (stanza_at k.stanza (keyed_of h).lists) some
  where
    by : (o : Option Content) → IsSome (option_and_then (λ x. slice_get (offers_of x) k.place) o) → IsSome o
    by None s = s
    by (Some x) s = refl

pub found_held : (h : Held) (keys : List OfferKey) → AreFound h keys → AreHeld (map (λ (o : StanzaKey × OfferParts). o.0) (map (offer_found h) keys)) (keyed_of h).lists
found_held h [] found = tt
found_held h (k ∷ keys) found = (seen_held h k found.0, found_held h keys found.1)

pub keys_held : (h : Held) (keys : List AtomKey) → AllByRecursion (λ (k : AtomKey). is_some (stanza_at k.stanza (keyed_of h).lists) ≡ true) keys → AreHeld (map (λ (k : AtomKey). k.stanza) keys) (keyed_of h).lists
keys_held h [] all = tt
keys_held h (k ∷ keys) all = (all.0, keys_held h keys all.1)

-- a clause that is there has a number
pub has_number : (k : ClauseKey) (es : List Entry) → number_at k es ≡ None → IsSome (clause_at k es) → ⊥
has_number k es none some = by (clause_at k es) _ none some
  where
    by : (c : Option (List AtomParts)) (f : List AtomParts → ℕ) → option_map f c ≡ None → IsSome c → ⊥
    by None f n s = true≢false (sym s)
    by (Some atoms) f n s = let z : ⊥ = cc in z
