-- The names of the table are the known names.
use Rattle.std.proofs.Common.{◌≡◌, ℕ, suc, ◌+◌, Bool, true, false, cond, not, nat_eq, ◌&&◌, ◌||◌, List, [], ◌∷◌, map, length, Option, Some, None, is_some, Vec, Global, refl, ap, sym, ◌∙◌, arith}
use Rattle.std.specs.List.{sum_by, flat_map, list_any, AllByRecursion}
use Rattle.std.specs.List.Sorted.{IsStrictlySortedBy}
use Rattle.std.specs.Map.{lookup}
use Rattle.std.specs.Option.{option_map_or}
use Rattle.std.specs.Ordering.{nat_cmp, is_eq}
use Rattle.std.specs.declared.cmp.Ordering.TheVariants.{Less}
use Rattle.std.specs.Cmp.Lexicographic.{slice_cmp, nat_list_eq_equiv}
use Rattle.std.specs.Str.{bytes_eq}
use Rattle.std.proofs.lemmas.Bool.Decides.{nat_tests}
use Rattle.std.proofs.lemmas.List.Sums.{sum_by-append, sum_by-cons}
use Rattle.std.proofs.lemmas.Map.Made.{is_some-lookup}
use Rattle.std.proofs.lemmas.Map.Text.{is_eq-slice_cmp}
use Rattle.ctl_relation.specs.declared.field_kind.FieldKind.{FieldKind}
use Rattle.ctl_relation.specs.Parts.{AtomParts, OfferParts}
use Rattle.ctl_stanza.specs.Content.{Content, groups_of, offers_of}
use Rattle.ctl_store.specs.declared.stanza_key.StanzaKey.{StanzaKey}
use Rattle.ctl_store.specs.Entries.{Entry}
use Rattle.ctl_index.specs.declared.named.Named.{Named}
use Rattle.ctl_index.specs.declared.tables.Tables.{Tables}
use Rattle.ctl_index.specs.Names.{naming_fields, naming_atoms, names_told, known_names, keyed_group, keyed_groups, keyed_atoms}
use Rattle.ctl_index.specs.Offers.{contents}
use Rattle.ctl_index.specs.Inside.NameMap.{NamedEntry, entry_names, found_in}
use Rattle.ctl_index.specs.Inside.TablesByName.{NameMap, at_name, offers_under, namers_under, own_under, no_rows, named_offers, named_namers, named_own, is_bare, is_used, AreUsed}
use Rattle.ctl_index.specs.Inside.TablesIndexed.{IsIndexed, keyed_offers_from, keyed_offers, offer_named, atom_named}
use Rattle.ctl_index.proofs.OrderLemmas.{is_among, is_in_order, among_in_order}
use Rattle.ctl_index.proofs.SumLemmas.{sum-cong, sum-plus, sum-flat_map, sum-map}

-- ---- a test that passes somewhere

-- some element passes, where those that pass are counted
pub any-counted : {X : Type 0} (p : X → Bool) (xs : List X) → list_any p xs ≡ not (nat_eq (sum_by (λ x. cond (p x) 1 0) xs) 0)
any-counted p [] = refl
any-counted p (x ∷ xs) = by (p x) (any-counted p xs) ∙ ap (λ n. not (nat_eq n 0)) (sym (sum_by-cons (λ y. cond (p y) 1 0) x xs))
  where
    more : (n : ℕ) → nat_eq (1 + n) 0 ≡ false
    more n = grind (arith, nat_tests)

    plain : (n : ℕ) → 0 + n ≡ n
    plain n = omega arith

    by : (b : Bool) → list_any p xs ≡ not (nat_eq (sum_by (λ y. cond (p y) 1 0) xs) 0) → (b || list_any p xs) ≡ not (nat_eq (cond b 1 0 + sum_by (λ y. cond (p y) 1 0) xs) 0)
    by true rest = sym (ap not (more (sum_by (λ y. cond (p y) 1 0) xs)))
    by false rest = rest ∙ ap (λ n. not (nat_eq n 0)) (sym (plain (sum_by (λ y. cond (p y) 1 0) xs)))

count-all : {X : Type 0} (xs : List X) → sum_by (λ x. 1) xs ≡ length xs
count-all [] = refl
count-all (x ∷ xs) = sum_by-cons (λ y. 1) x xs ∙ omega (arith, count-all xs)

-- ---- how often a name stands among those of stanzas

module _ (q : List ℕ) where
  abbrev is : List ℕ → ℕ
  is name = cond (bytes_eq name q) 1 0

  pub offered-from : (key : StanzaKey) (n : ℕ) (os : List OfferParts) → sum_by (offer_named q (λ k. 1)) (keyed_offers_from key n os) ≡ sum_by (λ (o : OfferParts). is o.name) os
  offered-from key n [] = refl
  offered-from key n (o ∷ os) =
      sum_by-cons (offer_named q (λ k. 1)) (record { stanza = key; place = n }, o) (keyed_offers_from key (suc n) os)
      ∙ ap (λ m. is o.name + m) (offered-from key (suc n) os) ∙ sym (sum_by-cons (λ (p : OfferParts). is p.name) o os)

  named-group : (key : StanzaKey) (field : FieldKind) (g n : ℕ) (atoms : List AtomParts) → sum_by (atom_named q (λ k. 1)) (keyed_group key field g n atoms) ≡ sum_by (λ (a : AtomParts). is a.name) atoms
  named-group key field g n [] = refl
  named-group key field g n (a ∷ atoms) =
      sum_by-cons (atom_named q (λ k. 1)) (record { stanza = key; field = field; group = g; atom = n }, a) (keyed_group key field g (suc n) atoms)
      ∙ ap (λ m. is a.name + m) (named-group key field g (suc n) atoms) ∙ sym (sum_by-cons (λ (b : AtomParts). is b.name) a atoms)

  named-groups : (key : StanzaKey) (field : FieldKind) (n : ℕ) (groups : List (List AtomParts)) → sum_by (atom_named q (λ k. 1)) (keyed_groups key field n groups) ≡ sum_by (λ group. sum_by (λ (a : AtomParts). is a.name) group) groups
  named-groups key field n [] = refl
  named-groups key field n (group ∷ groups) =
      sum_by-append (atom_named q (λ k. 1)) (keyed_group key field n 0 group) (keyed_groups key field (suc n) groups)
      ∙ (λ i. named-group key field n 0 group i + named-groups key field (suc n) groups i) ∙ sym (sum_by-cons (λ g. sum_by (λ (a : AtomParts). is a.name) g) group groups)

  pub named-all : (e : Entry) → sum_by (atom_named q (λ k. 1)) (keyed_atoms e) ≡ sum_by (λ (a : AtomParts). is a.name) (naming_atoms e.1)
  named-all e =
      sum-flat_map (atom_named q (λ k. 1)) (λ field. keyed_groups e.0 field 0 (groups_of field e.1)) naming_fields
      ∙ sum-cong _ _ (λ field. named-groups e.0 field 0 (groups_of field e.1) ∙ sym (sum-flat_map (λ (a : AtomParts). is a.name) (λ group. group) (groups_of field e.1))) naming_fields
      ∙ sym (sum-flat_map (λ (a : AtomParts). is a.name) (λ field. flat_map (λ group. group) (groups_of field e.1)) naming_fields)

  names-sum : (x : Content) → sum_by is (names_told x) ≡ sum_by (λ (o : OfferParts). is o.name) (offers_of x) + sum_by (λ (a : AtomParts). is a.name) (naming_atoms x)
  names-sum x =
      sum_by-append is (map (λ (o : OfferParts). o.name) (offers_of x)) (map (λ (a : AtomParts). a.name) (naming_atoms x))
      ∙ (λ i. sum-map is (λ (o : OfferParts). o.name) (offers_of x) i + sum-map is (λ (a : AtomParts). a.name) (naming_atoms x) i)

  listed-sum : (es : List Entry) (t : Tables) → IsIndexed es t → sum_by (λ name. cond (bytes_eq q name) 1 0) (flat_map names_told (contents es)) ≡ length (offers_under t.names.map q) + length (namers_under t.names.map q)
  listed-sum es t was =
      sum-cong _ _ (λ name i. cond (nat_list_eq_equiv.symm q name i) 1 0) (flat_map names_told (contents es)) ∙ sum-flat_map is names_told (contents es) ∙ sum-map (λ x. sum_by is (names_told x)) (λ (e : Entry). e.1) es
      ∙ sum-cong _ _ (λ (e : Entry). names-sum e.1 ∙ (λ i. sym (offered-from e.0 0 (offers_of e.1)) i + sym (named-all e) i)) es
      ∙ sum-plus (λ (e : Entry). sum_by (offer_named q (λ k. 1)) (keyed_offers e)) (λ (e : Entry). sum_by (atom_named q (λ k. 1)) (keyed_atoms e)) es
      ∙ (λ i. (sym (was.offers q (λ k. 1)) ∙ count-all (offers_under t.names.map q)) i + (sym (was.namers q (λ k. 1)) ∙ count-all (namers_under t.names.map q)) i)

-- ---- the names of the table

-- what has rows, or of which anything is chosen, has offers
abbrev pub HasOffers : NameMap → List ℕ → Type 0
HasOffers m q = is_bare (own_under m q) ≡ false → nat_eq (length (offers_under m q)) 0 ≡ false

used-sum : (a b : ℕ) (bare : Bool) → (bare ≡ false → nat_eq a 0 ≡ false) → not ((nat_eq a 0 && nat_eq b 0) && bare) ≡ not (nat_eq (a + b) 0)
used-sum a b bare h = by (nat_eq a 0) (nat_eq b 0) bare refl refl h
  where
    none : nat_eq a 0 ≡ true → nat_eq b 0 ≡ true → nat_eq (a + b) 0 ≡ true
    none e f = grind (arith, nat_tests)

    first : nat_eq a 0 ≡ false → nat_eq (a + b) 0 ≡ false
    first e = grind (arith, nat_tests)

    second : nat_eq b 0 ≡ false → nat_eq (a + b) 0 ≡ false
    second e = grind (arith, nat_tests)

    by : (x y z : Bool) → nat_eq a 0 ≡ x → nat_eq b 0 ≡ y → (z ≡ false → x ≡ false) → not ((x && y) && z) ≡ not (nat_eq (a + b) 0)
    by true true true e f h = sym (ap not (none e f))
    by true true false e f h = absurd (let z : true ≡ false = h refl in let y : ⊥ = cc in y)
    by true false z e f h = sym (ap not (second f))
    by false y z e f h = sym (ap not (first e))

-- a name is there where something stands under it
there-used : (m : NameMap) (q : List ℕ) → AreUsed m → HasOffers m q → is_some (at_name m q) ≡ not (nat_eq (length (offers_under m q) + length (namers_under m q)) 0)
there-used m q used offered = by (at_name m q) (used q) offered
  where
    by : (o : Option Named) → option_map_or is_used o true ≡ true → (is_bare (option_map_or named_own o no_rows) ≡ false → nat_eq (length (option_map_or named_offers o [])) 0 ≡ false)
        → is_some o ≡ not (nat_eq (length (option_map_or named_offers o []) + length (option_map_or named_namers o [])) 0)
    by None u offered = refl
    by (Some v) u offered = sym u ∙ used-sum (length (named_offers v)) (length (named_namers v)) (is_bare (named_own v)) offered

pub looked-up : {V : Type 0} (q : List ℕ) (es : List (Vec ℕ Global × V)) → is_some (lookup (λ k. is_eq (slice_cmp nat_cmp q k.items)) es) ≡ is_among (map (λ (k : Vec ℕ Global). k.items) (map (λ (e : Vec ℕ Global × V). e.0) es)) q
looked-up q [] = refl
looked-up {V} q (e ∷ es) = by (is_eq (slice_cmp nat_cmp q e.0.items)) (looked-up q es) ∙ ap (λ b. b || is_among (map (λ (k : Vec ℕ Global). k.items) (map (λ (d : Vec ℕ Global × V). d.0) es)) q) (is_eq-slice_cmp q e.0.items)
  where
    by : (b : Bool) → is_some (lookup (λ k. is_eq (slice_cmp nat_cmp q k.items)) es) ≡ is_among (map (λ (k : Vec ℕ Global). k.items) (map (λ (d : Vec ℕ Global × V). d.0) es)) q
        → is_some (cond b (Some e.1) (lookup (λ k. is_eq (slice_cmp nat_cmp q k.items)) es)) ≡ (b || is_among (map (λ (k : Vec ℕ Global). k.items) (map (λ (d : Vec ℕ Global × V). d.0) es)) q)
    by true rest = refl
    by false rest = rest

below-items : (k : Vec ℕ Global) (ks : List (Vec ℕ Global)) → AllByRecursion (λ (j : Vec ℕ Global). slice_cmp nat_cmp k.items j.items ≡ Less) ks → AllByRecursion (λ n. slice_cmp nat_cmp k.items n ≡ Less) (map (λ (j : Vec ℕ Global). j.items) ks)
below-items k [] h = tt
below-items k (j ∷ ks) h = (h.0, below-items k ks h.1)

pub sorted-items : (ks : List (Vec ℕ Global)) → IsStrictlySortedBy (λ (x y : Vec ℕ Global). slice_cmp nat_cmp x.items y.items) ks → IsStrictlySortedBy (slice_cmp nat_cmp) (map (λ (k : Vec ℕ Global). k.items) ks)
unfolding IsStrictlySortedBy
sorted-items [] h = tt
sorted-items (k ∷ ks) h = (below-items k ks h.0, sorted-items ks h.1)

-- of entries that are found as a table says, in their order
pub known_is : (es : List Entry) (t : Tables) → IsIndexed es t → AreUsed t.names.map → ((q : List ℕ) → HasOffers t.names.map q) → (entries : List NamedEntry)
    → IsStrictlySortedBy (slice_cmp nat_cmp) (entry_names entries) → ((q : List ℕ) → found_in entries q ≡ at_name t.names.map q) → entry_names entries ≡ known_names (contents es)
unfolding known_names
known_is es t was used offered entries sorted found =
    is_in_order (entry_names entries) (flat_map names_told (contents es)) sorted
    (λ q. sym (is_some-lookup (bytes_eq q) entries) ∙ ap is_some (found q) ∙ there-used t.names.map q used (offered q) ∙ ap (λ n. not (nat_eq n 0)) (sym (listed-sum q es t was)) ∙ sym (any-counted (bytes_eq q) (flat_map names_told (contents es))))

-- a name stands in the table where it is known
pub known_there : (q : List ℕ) (es : List Entry) (t : Tables) → IsIndexed es t → AreUsed t.names.map → HasOffers t.names.map q → is_some (at_name t.names.map q) ≡ list_any (bytes_eq q) (known_names (contents es))
unfolding known_names
known_there q es t was used offered =
    there-used t.names.map q used offered ∙ ap (λ n. not (nat_eq n 0)) (sym (listed-sum q es t was)) ∙ sym (any-counted (bytes_eq q) (flat_map names_told (contents es))) ∙ sym (among_in_order q (flat_map names_told (contents es)))
