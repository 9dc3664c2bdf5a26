-- The names of packages that begin with a prefix.
use Rattle.std.proofs.Common.{◌≡◌, ℕ, suc, ◌+◌, ◌<◌, Bool, true, false, cond, not, nat_eq, ◌&&◌, ◌||◌, List, [], ◌∷◌, filter, Option, Some, None, refl, ap, sym, ◌∙◌, arith, nat_cmp}
use Rattle.std.specs.List.{sum_by, list_any, starts_with, AllByRecursion}
use Rattle.std.specs.List.Sorted.{IsStrictlySortedBy}
use Rattle.std.specs.Option.{option_map_or}
use Rattle.std.specs.Ordering.{ordering_then, is_le, is_eq}
use Rattle.std.specs.Cmp.Lexicographic.{slice_cmp, nat_list_eq_equiv}
use Rattle.std.specs.Str.{bytes_eq}
use Rattle.std.specs.declared.cmp.Ordering.{Ordering}
use Rattle.std.specs.declared.cmp.Ordering.TheVariants.{Less, Equal, Greater}
use Rattle.std.proofs.lemmas.Bool.{true≢false}
use Rattle.std.proofs.lemmas.Bool.Decides.{nat_tests}
use Rattle.std.proofs.lemmas.Cmp.{ranked}
use Rattle.std.proofs.lemmas.List.Sums.{sum_by-cons}
use Rattle.std.proofs.lemmas.Map.Text.{is_eq-slice_cmp}
use Rattle.std.proofs.lemmas.Slice.Eq.{bytes_eq-Decides}
use Rattle.ctl_relation.specs.Parts.{OfferParts}
use Rattle.ctl_stanza.specs.Content.{Content, package_of, version_of, provides_of, offers_in, is_live}
use Rattle.ctl_store.specs.declared.stanza_key.StanzaKey.{StanzaKey}
use Rattle.ctl_store.specs.Entries.{Entry}
use Rattle.ctl_index.specs.declared.keys.OfferKey.{OfferKey}
use Rattle.ctl_index.specs.declared.tables.Tables.{Tables}
use Rattle.ctl_index.specs.Names.{is_package}
use Rattle.ctl_index.specs.Offers.{contents}
use Rattle.ctl_index.specs.declared.named.Named.{Named}
use Rattle.ctl_index.specs.Inside.TablesByName.{NameMap, at_name, offers_under, named_offers}
use Rattle.ctl_index.specs.Inside.TablesIndexed.{IsIndexed, keyed_offers, keyed_offers_from, offer_named}
use Rattle.ctl_index.specs.Inside.TablesViews.{is_own, has_own, packages_with, AreFrom}
use Rattle.ctl_index.specs.Inside.NameMap.{NamedEntry, entry_names, found_in}
use Rattle.ctl_index.proofs.NamesLemmas.{any-counted}
use Rattle.ctl_index.proofs.SumLemmas.{sum-cong, sum-map}

-- ---- names in order that begin with a prefix stand together

apart : (a c : ℕ) → a < c → nat_eq a c ≡ false
apart a c h = grind (arith, nat_tests, h)

tied : (a b : ℕ) → a ≡ b → nat_eq a b ≡ true
tied a b h = grind (arith, nat_tests, h)

never : (b : Bool) → (b && false) ≡ false
never true = refl
never false = refl

less≢greater : Greater ≡ Less → ⊥
less≢greater e = let z : ⊥ = cc in z

-- behind a name that isn't before the prefix and doesn't begin with it
none_later : (p n m : List ℕ) → is_le (slice_cmp nat_cmp p n) ≡ true → starts_with nat_eq n p ≡ false → slice_cmp nat_cmp n m ≡ Less → starts_with nat_eq m p ≡ false
none_later [] n m from other below = absurd (true≢false other)
none_later (a ∷ p) [] m from other below = absurd (true≢false (sym from))
none_later (a ∷ p) (b ∷ n) [] from other below = refl
none_later (a ∷ p) (b ∷ n) (c ∷ m) from other below = by (nat_cmp a b) refl (nat_cmp b c) refl from below (none_later p n m)
  where
    first : a < c → (nat_eq a c && starts_with nat_eq m p) ≡ false
    first h = ap (λ t. t && starts_with nat_eq m p) (apart a c h)

    by : (o : Ordering) → o ≡ nat_cmp a b → (r : Ordering) → r ≡ nat_cmp b c → is_le (ordering_then o (slice_cmp nat_cmp p n)) ≡ true → ordering_then r (slice_cmp nat_cmp n m) ≡ Less
        → (is_le (slice_cmp nat_cmp p n) ≡ true → starts_with nat_eq n p ≡ false → slice_cmp nat_cmp n m ≡ Less → starts_with nat_eq m p ≡ false)
        → (nat_eq a c && starts_with nat_eq m p) ≡ false
    by Less e Less f from' below' rest = first (omega (arith, ranked a b Less e, ranked b c Less f))
    by Less e Equal f from' below' rest = first (omega (arith, ranked a b Less e, ranked b c Equal f))
    by Less e Greater f from' below' rest = absurd (less≢greater below')
    by Equal e Less f from' below' rest = first (omega (arith, ranked a b Equal e, ranked b c Less f))
    by Equal e Equal f from' below' rest =
        ap (λ t. nat_eq a c && t) (rest from' (sym (ap (λ t. t && starts_with nat_eq n p) (tied a b (ranked a b Equal e))) ∙ other) below') ∙ never (nat_eq a c)
    by Equal e Greater f from' below' rest = absurd (less≢greater below')
    by Greater e r f from' below' rest = absurd (true≢false (sym from'))

-- ---- what is left of a range

pub none_left : (p n : List ℕ) (es : List NamedEntry) → is_le (slice_cmp nat_cmp p n) ≡ true → starts_with nat_eq n p ≡ false → AllByRecursion (λ m. slice_cmp nat_cmp n m ≡ Less) (entry_names es) → packages_with p es ≡ []
none_left p n [] from other below = refl
none_left p n (e ∷ es) from other below =
    ap (λ b. entry_names (cond (b && has_own e.1) (e ∷ filter (λ (d : NamedEntry). starts_with nat_eq d.0 p && has_own d.1) es) (filter (λ (d : NamedEntry). starts_with nat_eq d.0 p && has_own d.1) es)))
    (none_later p n e.0 from other below.0)
    ∙ none_left p n es from other below.1

-- at a name that doesn't begin with the prefix they end
pub stops : (p : List ℕ) (e : NamedEntry) (es : List NamedEntry) → AreFrom p (entry_names (e ∷ es)) → starts_with nat_eq e.0 p ≡ false → (packages_with p (e ∷ es) ≡ []) × (packages_with p es ≡ [])
unfolding IsStrictlySortedBy
stops p e es h other =
    let left = none_left p e.0 es h.from.0 other h.order.0 in
    let test : NamedEntry → Bool = λ d. starts_with nat_eq d.0 p && has_own d.1 in
    (ap (λ b. entry_names (cond (b && has_own e.1) (e ∷ filter test es) (filter test es))) other ∙ left, left)

pub goes_on : (p : List ℕ) (e : NamedEntry) (es : List NamedEntry) → AreFrom p (entry_names (e ∷ es)) → AreFrom p (entry_names es)
unfolding IsStrictlySortedBy
goes_on p e es h = record { order = h.order.1; from = h.from.1 }

pub shows : (p : List ℕ) (e : NamedEntry) (es : List NamedEntry) → starts_with nat_eq e.0 p ≡ true → has_own e.1 ≡ true → packages_with p (e ∷ es) ≡ e.0 ∷ packages_with p es
shows p e es begins own =
    let test : NamedEntry → Bool = λ d. starts_with nat_eq d.0 p && has_own d.1 in
    (λ i. entry_names (cond (begins i && own i) (e ∷ filter test es) (filter test es)))

pub passes : (p : List ℕ) (e : NamedEntry) (es : List NamedEntry) → has_own e.1 ≡ false → packages_with p (e ∷ es) ≡ packages_with p es
passes p e es own =
    let test : NamedEntry → Bool = λ d. starts_with nat_eq d.0 p && has_own d.1 in
    ap (λ b. entry_names (cond b (e ∷ filter test es) (filter test es))) (ap (λ b. starts_with nat_eq e.0 p && b) own ∙ never (starts_with nat_eq e.0 p))

-- ---- the names are in order

below_shown : (n : List ℕ) (p : List ℕ) (es : List NamedEntry) → AllByRecursion (λ m. slice_cmp nat_cmp n m ≡ Less) (entry_names es) → AllByRecursion (λ m. slice_cmp nat_cmp n m ≡ Less) (packages_with p es)
below_shown n p [] h = tt
below_shown n p (e ∷ es) h = by (starts_with nat_eq e.0 p && has_own e.1) (below_shown n p es h.1)
  where
    test : NamedEntry → Bool
    test d = starts_with nat_eq d.0 p && has_own d.1

    by : (b : Bool) → AllByRecursion (λ m. slice_cmp nat_cmp n m ≡ Less) (packages_with p es) → AllByRecursion (λ m. slice_cmp nat_cmp n m ≡ Less) (entry_names (cond b (e ∷ filter test es) (filter test es)))
    by true rest = (h.0, rest)
    by false rest = rest

pub shown_sorted : (p : List ℕ) (es : List NamedEntry) → IsStrictlySortedBy (slice_cmp nat_cmp) (entry_names es) → IsStrictlySortedBy (slice_cmp nat_cmp) (packages_with p es)
unfolding IsStrictlySortedBy
shown_sorted p [] h = tt
shown_sorted p (e ∷ es) h = by (starts_with nat_eq e.0 p && has_own e.1) (shown_sorted p es h.1)
  where
    test : NamedEntry → Bool
    test d = starts_with nat_eq d.0 p && has_own d.1

    by : (b : Bool) → IsStrictlySortedBy (slice_cmp nat_cmp) (packages_with p es) → IsStrictlySortedBy (slice_cmp nat_cmp) (entry_names (cond b (e ∷ filter test es) (filter test es)))
    by true rest = (below_shown e.0 p es h.0, rest)
    by false rest = rest

-- ---- which names they are

module _ (q : List ℕ) where
  abbrev among : List (List ℕ) → Bool
  among names = list_any (bytes_eq q) names

  -- a name that is below others is none of them
  none_below : (p : List ℕ) (n : List ℕ) (es : List NamedEntry) → bytes_eq q n ≡ true → AllByRecursion (λ m. slice_cmp nat_cmp n m ≡ Less) (entry_names es) → among (packages_with p es) ≡ false
  none_below p n [] is below = refl
  none_below p n (e ∷ es) is below = by (starts_with nat_eq e.0 p && has_own e.1) (none_below p n es is below.1)
    where
      test : NamedEntry → Bool
      test d = starts_with nat_eq d.0 p && has_own d.1

      other : bytes_eq q e.0 ≡ false
      other = nat_list_eq_equiv.congr q n e.0 is ∙ sym (is_eq-slice_cmp n e.0) ∙ ap is_eq below.0

      by : (b : Bool) → among (packages_with p es) ≡ false → among (entry_names (cond b (e ∷ filter test es) (filter test es))) ≡ false
      by true rest = (λ i. other i || rest i)
      by false rest = rest

  -- the name that is looked up is shown where it begins with the prefix and has an offer of its own
  pub shown_at : (p : List ℕ) (es : List NamedEntry) → IsStrictlySortedBy (slice_cmp nat_cmp) (entry_names es)
      → among (packages_with p es) ≡ (starts_with nat_eq q p && option_map_or has_own (found_in es q) false)
  unfolding IsStrictlySortedBy
  shown_at p [] h = sym (never (starts_with nat_eq q p))
  shown_at p (e ∷ es) h = by (bytes_eq q e.0) refl (shown_at p es h.1)
    where
      test : NamedEntry → Bool
      test d = starts_with nat_eq d.0 p && has_own d.1

      here : (b : Bool) → bytes_eq q e.0 ≡ true → among (packages_with p es) ≡ false → among (entry_names (cond b (e ∷ filter test es) (filter test es))) ≡ b
      here true is none = ap (λ t. t || among (packages_with p es)) is
      here false is none = none

      there : (b : Bool) → bytes_eq q e.0 ≡ false → among (entry_names (cond b (e ∷ filter test es) (filter test es))) ≡ among (packages_with p es)
      there true is = ap (λ t. t || among (packages_with p es)) is
      there false is = refl

      by : (b : Bool) → bytes_eq q e.0 ≡ b
          → among (packages_with p es) ≡ (starts_with nat_eq q p && option_map_or has_own (found_in es q) false)
          → among (entry_names (cond (test e) (e ∷ filter test es) (filter test es)))
          ≡ (starts_with nat_eq q p && option_map_or has_own (cond b (Some e.1) (found_in es q)) false)
      by true i rest =
          here (test e) i (none_below p e.0 es i h.0)
          ∙ ap (λ n. starts_with nat_eq n p && has_own e.1) (sym ((bytes_eq-Decides q e.0).0 i))
      by false i rest = there (test e) i ∙ rest

  -- ---- a name has an offer of its own where a live stanza is of its package

  abbrev own_number : OfferKey → ℕ
  own_number key = cond (is_own key) 1 0

  none_either : (b : Bool) → ◌≡◌ {A = ℕ} (cond b 0 0) 0
  none_either true = refl
  none_either false = refl

  not_first : (n : ℕ) → nat_eq (suc n) 0 ≡ false
  not_first n = grind (arith, nat_tests)

  and_none : (n : ℕ) → n + 0 ≡ n
  and_none n = omega arith

  none_behind : (key : StanzaKey) (n : ℕ) (os : List OfferParts) → sum_by (offer_named q own_number) (keyed_offers_from key (suc n) os) ≡ 0
  none_behind key n [] = refl
  none_behind key n (o ∷ os) =
      sum_by-cons (offer_named q own_number) (record { stanza = key; place = suc n }, o) (keyed_offers_from key (suc (suc n)) os)
      ∙ (λ i. (ap (λ b. cond (bytes_eq o.name q) (cond b 1 0) 0) (not_first n) ∙ none_either (bytes_eq o.name q)) i + none_behind key (suc n) os i)

  abbrev describes : Content → Bool
  describes x = is_live x && bytes_eq q (package_of x)

  own_sum : (e : Entry) → sum_by (offer_named q own_number) (keyed_offers e) ≡ cond (describes e.1) 1 0
  own_sum e = by (is_live e.1)
    where
      own : OfferParts
      own = record { name = package_of e.1; version = version_of e.1 }

      by : (b : Bool) → sum_by (offer_named q own_number) (keyed_offers_from e.0 0 (cond b (own ∷ offers_in (provides_of e.1)) [])) ≡ cond (b && bytes_eq q (package_of e.1)) 1 0
      by true =
          sum_by-cons (offer_named q own_number) (record { stanza = e.0; place = 0 }, own) (keyed_offers_from e.0 1 (offers_in (provides_of e.1)))
          ∙ (λ i. cond (nat_list_eq_equiv.symm (package_of e.1) q i) 1 0 + none_behind e.0 0 (offers_in (provides_of e.1)) i) ∙ and_none (cond (bytes_eq q (package_of e.1)) 1 0)
      by false = refl

  pub own_under : (es : List Entry) (t : Tables) → IsIndexed es t → list_any is_own (offers_under t.names.map q) ≡ is_package (contents es) q
  own_under es t was =
      any-counted is_own (offers_under t.names.map q)
      ∙ ap (λ n. not (nat_eq n 0)) (was.offers q own_number ∙ sum-cong _ _ own_sum es ∙ sym (sum-map (λ x. cond (describes x) 1 0) (λ (e : Entry). e.1) es))
      ∙ sym (any-counted describes (contents es))

  own_at : (m : NameMap) → option_map_or has_own (at_name m q) false ≡ list_any is_own (offers_under m q)
  own_at m = by (at_name m q)
    where
      by : (o : Option Named) → option_map_or has_own o false ≡ list_any is_own (option_map_or named_offers o [])
      by None = refl
      by (Some v) = refl

  -- among entries in order that have what the table has of all names that begin with the prefix
  pub packages_are : (p : List ℕ) (es : List Entry) (t : Tables) → IsIndexed es t → (entries : List NamedEntry) → IsStrictlySortedBy (slice_cmp nat_cmp) (entry_names entries)
      → (starts_with nat_eq q p ≡ true → found_in entries q ≡ at_name t.names.map q) → among (packages_with p entries) ≡ (starts_with nat_eq q p && is_package (contents es) q)
  packages_are p es t was entries sorted found = shown_at p entries sorted ∙ by (starts_with nat_eq q p) refl
    where
      by : (b : Bool) → starts_with nat_eq q p ≡ b → (b && option_map_or has_own (found_in entries q) false) ≡ (b && is_package (contents es) q)
      by true begins = ap (λ o. option_map_or has_own o false) (found begins) ∙ own_at t.names.map ∙ own_under es t was
      by false begins = refl
