-- The clauses of one stanza at their places, in order.
use Rattle.std.proofs.Common.{◌≡◌, ◌∙◌, ℕ, zero, suc, ◌+◌, ◌<◌, Bool, true, false, cond, ◌&&◌, [], ◌∷◌, ◌++◌, length, get_or, slice_get, Option, None, Some, option_map, refl, sym, ap, subst, arith, true≢false, slice_set}
use Rattle.std.specs.Cmp.{IsTotalOrder, nat_cmp_total, on_total, then_total, eq_by_cmp_equiv}
use Rattle.std.specs.List.{HoldsAt, AllByRecursion}
use Rattle.std.specs.List.Sorted.{IsStrictlySortedBy, IsPartitionPoint, IsNonDecreasingBy}
use Rattle.std.specs.Map.{keys_of}
use Rattle.std.specs.Option.{option_or}
use Rattle.std.specs.Ordering.{nat_cmp, ordering_reverse, ordering_index, is_eq, is_lt}
use Rattle.std.specs.declared.cmp.Ordering.{Ordering}
use Rattle.std.specs.declared.cmp.Ordering.TheVariants.{Less, Equal, Greater}
use Rattle.std.proofs.lemmas.List.Sorted.{searchable_from_sorted}
use Rattle.std.proofs.lemmas.Map.Entries.{lookup_at_gap, lookup_from_place}
use Rattle.std.proofs.lemmas.Map.Keys.{sorted_from_all_adjacent, Less-from_sorted, sorted_head, sorted_tail, IsDistinct-from_sorted}
use Rattle.std.proofs.lemmas.Option.{same_Some, slice_get_within, get_or_from_slice_get, slice_get-get_or}
use Rattle.ctl_relation.specs.FieldKind.{field_place}
use Rattle.ctl_index.specs.declared.stanza_numbers.ClausePlace.{ClausePlace}
use Rattle.ctl_index.specs.Inside.ClauseNumbers.{Placed, place_cmp, number_at_place, AreInPlace, come_in}
use Rattle.ctl_index.proofs.CounterLemmas.{exact_field}
use Rattle.ctl_index.proofs.ClauseLemmas.{is_eq_then, is_eq_nat, nat_eq-is, nat_eq-refl}

-- ---- two places

pub places_total : IsTotalOrder place_cmp
places_total = then_total (on_total (λ (p : ClausePlace). field_place p.field) nat_cmp_total) (on_total (λ (p : ClausePlace). p.group) nat_cmp_total)

both_true : (a b : Bool) → a && b ≡ true → (a ≡ true) × (b ≡ true)
both_true true b e = (refl, e)
both_true false b e = absurd (true≢false (sym e))

pub same_place : (a b : ClausePlace) → is_eq (place_cmp a b) ≡ true → a ≡ b
same_place a b e =
    let h = both_true (is_eq (nat_cmp (field_place a.field) (field_place b.field))) (is_eq (nat_cmp a.group b.group)) (sym (is_eq_then (nat_cmp (field_place a.field) (field_place b.field)) (nat_cmp a.group b.group)) ∙ e) in
    let field = exact_field a.field b.field (nat_eq-is _ _ (sym (is_eq_nat (field_place a.field) (field_place b.field)) ∙ h.0)) in
    let group = nat_eq-is _ _ (sym (is_eq_nat a.group b.group) ∙ h.1) in
    λ i. record { field = field i; group = group i }

turned : (o : Ordering) → is_eq (ordering_reverse o) ≡ is_eq o
turned Less = refl
turned Equal = refl
turned Greater = refl

pub tie_turned : (a b : ClausePlace) → is_eq (place_cmp a b) ≡ is_eq (place_cmp b a)
tie_turned a b = ap is_eq (places_total.antisymm a b) ∙ turned (place_cmp b a)

pub less_where : (o : Ordering) → is_lt o ≡ true → o ≡ Less
less_where Less e = refl
less_where Equal e = absurd (true≢false (sym e))
less_where Greater e = absurd (true≢false (sym e))

-- ---- places that rise

place_read : (cs : Placed) (i : ℕ) (d : ClausePlace × ℕ) → get_or (keys_of cs) i d.0 ≡ (get_or cs i d).0
place_read [] i d = refl
place_read (c ∷ cs) zero d = refl
place_read (c ∷ cs) (suc i) d = place_read cs i d

places_long : (cs : Placed) → length (keys_of cs) ≡ length cs
places_long [] = refl
places_long (c ∷ cs) = ap suc (places_long cs)

-- neighbours that rise
pub rising_from : (cs : Placed) (d : ClausePlace × ℕ) → ((k : ℕ) → k + 1 < length cs → is_lt (place_cmp (get_or cs k d).0 (get_or cs (k + 1) d).0) ≡ true) → AreInPlace cs
rising_from cs d each = sorted_from_all_adjacent places_total (keys_of cs) d.0 (λ k l.
    (λ i. place_cmp (place_read cs k d i) (place_read cs (k + 1) d i)) ∙ less_where _ (each k (omega (arith, l, places_long cs))))

-- a place below all of some is none of them
pub none_below : (p : ClausePlace) (cs : Placed) → AllByRecursion (λ q. place_cmp p q ≡ Less) (keys_of cs) → number_at_place p cs ≡ None
none_below p [] h = refl
none_below p (c ∷ cs) h = ap (λ o. cond (is_eq o) (Some c.1) (number_at_place p cs)) h.0 ∙ none_below p cs h.1

none_behind : (p : ClausePlace) (c : ClausePlace × ℕ) (cs : Placed) → AreInPlace (c ∷ cs) → is_eq (place_cmp p c.0) ≡ true → number_at_place p cs ≡ None
none_behind p c cs rising tie = ap (λ q. number_at_place q cs) (same_place p c.0 tie) ∙ none_below c.0 cs (sorted_head place_cmp c.0 (keys_of cs) rising)

-- clauses that come in turn, where each place comes once
pub come_in-rising : (cs : Placed) → AreInPlace cs → (q : ClausePlace) (old : Option ℕ) → come_in cs q old ≡ option_or (number_at_place q cs) old
come_in-rising [] rising q old = refl
come_in-rising (c ∷ cs) rising q old =
    come_in-rising cs (sorted_tail place_cmp c.0 (keys_of cs) rising) q (cond (is_eq (place_cmp c.0 q)) (Some c.1) old)
    ∙ ap (λ b. option_or (number_at_place q cs) (cond b (Some c.1) old)) (tie_turned c.0 q) ∙ by (is_eq (place_cmp q c.0)) (λ tie. none_behind q c cs rising tie)
  where
    by : (b : Bool) → (b ≡ true → number_at_place q cs ≡ None) → option_or (number_at_place q cs) (cond b (Some c.1) old) ≡ option_or (cond b (Some c.1) (number_at_place q cs)) old
    by true none = ap (λ o. option_or o (Some c.1)) (none refl)
    by false none = refl

pub come_in-none : (cs : Placed) → AreInPlace cs → (q : ClausePlace) → number_at_place q cs ≡ come_in cs q None
come_in-none cs rising q = sym (come_in-rising cs rising q None ∙ or_none (number_at_place q cs))
  where
    or_none : (o : Option ℕ) → option_or o None ≡ o
    or_none None = refl
    or_none (Some n) = refl

-- one more comes
pub come_in-push : (cs : Placed) (c : ClausePlace × ℕ) (q : ClausePlace) (old : Option ℕ) → come_in (cs ++ c ∷ []) q old ≡ cond (is_eq (place_cmp c.0 q)) (Some c.1) (come_in cs q old)
come_in-push [] c q old = refl
come_in-push (x ∷ cs) c q old = come_in-push cs c q (cond (is_eq (place_cmp x.0 q)) (Some x.1) old)

module _ (cs : Placed) (rising : AreInPlace cs) where
  below : (i j : ℕ) (d : ClausePlace × ℕ) → i < j → j < length cs → place_cmp (get_or cs i d).0 (get_or cs j d).0 ≡ Less
  below i j d a b = (λ n. place_cmp (sym (place_read cs i d) n) (sym (place_read cs j d) n)) ∙ Less-from_sorted place_cmp (keys_of cs) i j d.0 rising a (omega (arith, b, places_long cs))

  searchable : (place : ClausePlace) → IsNonDecreasingBy (λ (p : ClausePlace × ℕ). ordering_index (place_cmp p.0 place)) cs
  searchable place = searchable_from_sorted places_total (λ (p : ClausePlace × ℕ). p.0) cs place (λ k d a b.
      ap is_lt (places_total.antisymm (get_or cs (k + 1) d).0 (get_or cs k d).0 ∙ ap ordering_reverse (below k (k + 1) d (omega arith) b)))

  -- what a search finds
  pub found : (place : ClausePlace) (i : ℕ) (d : ClausePlace × ℕ) → i < length cs → HoldsAt (λ (p : ClausePlace × ℕ). place_cmp p.0 place ≡ Equal) cs i → option_map (λ (c : ClausePlace × ℕ). c.0) (slice_get cs i) ≡ Some place
  found place i d within same = ap (option_map (λ (c : ClausePlace × ℕ). c.0)) (slice_get-get_or cs i d within) ∙ ap (λ p. Some p) (same_place (get_or cs i d).0 place (ap is_eq (same d)))

  pub not_found : (place : ClausePlace) (i : ℕ) → (IsNonDecreasingBy (λ (p : ClausePlace × ℕ). ordering_index (place_cmp p.0 place)) cs → IsPartitionPoint (λ (p : ClausePlace × ℕ). place_cmp p.0 place ≡ Less) (λ (p : ClausePlace × ℕ). place_cmp p.0 place ≡ Greater) cs i) → number_at_place place cs ≡ None
  not_found place i parted =
      let point = parted (searchable place) in
      lookup_at_gap places_total place cs i rising
      (λ j e l at. places_total.antisymm place e.0 ∙ ap ordering_reverse (ap (λ (p : ClausePlace × ℕ). place_cmp p.0 place) (sym (get_or_from_slice_get cs j e e at)) ∙ point.0 j e (omega arith) l))
      (λ e at. places_total.antisymm place e.0 ∙ ap ordering_reverse (ap (λ (p : ClausePlace × ℕ). place_cmp p.0 place) (sym (get_or_from_slice_get cs i e e at)) ∙ point.1 i e (omega arith) (slice_get_within cs i e at)))

pub none_rises : AreInPlace []
unfolding IsStrictlySortedBy
none_rises = tt

-- ---- one number is written

module _ (p : ClausePlace) (w : ℕ) where
  keys_kept : (cs : Placed) (at : ℕ) → option_map (λ (c : ClausePlace × ℕ). c.0) (slice_get cs at) ≡ Some p → keys_of (slice_set cs at (p, w)) ≡ keys_of cs
  keys_kept [] at h = refl
  keys_kept (c ∷ cs) zero h = ap (λ x. x ∷ keys_of cs) (sym (same_Some c.0 p h))
  keys_kept (c ∷ cs) (suc at) h = ap (λ ks. c.0 ∷ ks) (keys_kept cs at h)

  pub rises_written : (cs : Placed) (at : ℕ) → option_map (λ (c : ClausePlace × ℕ). c.0) (slice_get cs at) ≡ Some p → AreInPlace cs → AreInPlace (slice_set cs at (p, w))
  rises_written cs at h rising = subst (IsStrictlySortedBy place_cmp) (sym (keys_kept cs at h)) rising

  all_there : (P : ClausePlace → Type 0) (cs : Placed) (at : ℕ) → option_map (λ (c : ClausePlace × ℕ). c.0) (slice_get cs at) ≡ Some p → AllByRecursion P (keys_of cs) → P p
  all_there P [] at h all = absurd cc
  all_there P (c ∷ cs) zero h all = subst P (same_Some c.0 p h) all.0
  all_there P (c ∷ cs) (suc at) h all = all_there P cs at h all.1

  apart : (o : Ordering) → o ≡ Less → is_eq o ≡ true → ⊥
  apart o less tie = true≢false (sym tie ∙ ap is_eq less)

  pub number_written : (cs : Placed) (at : ℕ) → option_map (λ (c : ClausePlace × ℕ). c.0) (slice_get cs at) ≡ Some p → AreInPlace cs
      → (q : ClausePlace) → number_at_place q (slice_set cs at (p, w)) ≡ cond (is_eq (place_cmp p q)) (Some w) (number_at_place q cs)
  number_written [] at h rising q = absurd cc
  number_written (c ∷ cs) zero h rising q =
      by (is_eq (place_cmp q p)) (is_eq (place_cmp q c.0)) (ap (λ x. is_eq (place_cmp q x)) (sym (same_Some c.0 p h))) ∙ ap (λ b. cond b (Some w) (number_at_place q (c ∷ cs))) (tie_turned q p)
    where
      by : (t u : Bool) → t ≡ u → cond t (Some w) (number_at_place q cs) ≡ cond t (Some w) (cond u (Some c.1) (number_at_place q cs))
      by true u e = refl
      by false true e = absurd (true≢false (sym e))
      by false false e = refl
  number_written (c ∷ cs) (suc at) h rising q =
      ap (cond (is_eq (place_cmp q c.0)) (Some c.1)) (number_written cs at h (sorted_tail place_cmp c.0 (keys_of cs) rising) q)
      ∙ by (is_eq (place_cmp q c.0)) (is_eq (place_cmp p q)) (λ a b. apart (place_cmp c.0 p) (all_there (λ x. place_cmp c.0 x ≡ Less) cs at h (sorted_head place_cmp c.0 (keys_of cs) rising))
      ((λ i. is_eq (place_cmp (sym (same_place q c.0 a) i) (same_place p q b i))) ∙ own_tie q))
    where
      own_tie : (x : ClausePlace) → is_eq (place_cmp x x) ≡ true
      own_tie x = is_eq_then (nat_cmp (field_place x.field) (field_place x.field)) (nat_cmp x.group x.group) ∙ (λ i. (is_eq_nat (field_place x.field) (field_place x.field) ∙ nat_eq-refl (field_place x.field)) i && (is_eq_nat x.group x.group ∙ nat_eq-refl x.group) i)

      by : (t u : Bool) → (t ≡ true → u ≡ true → ⊥) → cond t (Some c.1) (cond u (Some w) (number_at_place q cs)) ≡ cond u (Some w) (cond t (Some c.1) (number_at_place q cs))
      by true true none = absurd (none refl refl)
      by true false none = refl
      by false u none = refl

-- the number at a place that is there
number_in_place : (cs : Placed) (at : ℕ) (p : ClausePlace) → option_map (λ (c : ClausePlace × ℕ). c.0) (slice_get cs at) ≡ Some p → at < length cs
number_in_place [] at p h = absurd cc
number_in_place (c ∷ cs) zero p h = omega arith
number_in_place (c ∷ cs) (suc at) p h = omega (arith, number_in_place cs at p h)

pub number_there : (cs : Placed) (at : ℕ) (p : ClausePlace) (d : ClausePlace × ℕ) → option_map (λ (c : ClausePlace × ℕ). c.0) (slice_get cs at) ≡ Some p → AreInPlace cs → number_at_place p cs ≡ Some (get_or cs at d).1
number_there cs at p d h rising =
    let within = number_in_place cs at p h in
    lookup_from_place (eq_by_cmp_equiv places_total) cs at p (get_or cs at d).1 (IsDistinct-from_sorted place_cmp (keys_of cs) rising)
    (slice_get-get_or cs at d within ∙ ap (λ q. Some (q, (get_or cs at d).1)) (same_Some (get_or cs at d).0 p (sym (ap (option_map (λ (c : ClausePlace × ℕ). c.0)) (slice_get-get_or cs at d within)) ∙ h)))

-- a number is changed where it is there, and no other
module _ (f : ℕ → ℕ → ℕ) (stay : (x : ℕ) → x ≡ f x 0) where
  same : (o : Option ℕ) → o ≡ option_map (λ x. f x 0) o
  same None = refl
  same (Some x) = ap (λ y. Some y) (stay x)

  pub place_changed : (cs : Placed) (p : ClausePlace) (v w : ℕ) → number_at_place p cs ≡ Some v → w ≡ f v 1
      → (q : ClausePlace) → cond (is_eq (place_cmp p q)) (Some w) (number_at_place q cs) ≡ option_map (λ x. f x (cond (is_eq (place_cmp p q)) 1 0)) (number_at_place q cs)
  place_changed cs p v w at is q = by (is_eq (place_cmp p q)) refl
    where
      by : (b : Bool) → is_eq (place_cmp p q) ≡ b → cond b (Some w) (number_at_place q cs) ≡ option_map (λ x. f x (cond b 1 0)) (number_at_place q cs)
      by true e = ap (λ y. Some y) is ∙ ap (option_map (λ x. f x 1)) (sym at ∙ ap (λ z. number_at_place z cs) (same_place p q e))
      by false e = same (number_at_place q cs)

  pub place_absent : (cs : Placed) (p : ClausePlace) → number_at_place p cs ≡ None
      → (q : ClausePlace) → number_at_place q cs ≡ option_map (λ x. f x (cond (is_eq (place_cmp p q)) 1 0)) (number_at_place q cs)
  place_absent cs p none q = by (is_eq (place_cmp p q)) refl
    where
      by : (b : Bool) → is_eq (place_cmp p q) ≡ b → number_at_place q cs ≡ option_map (λ x. f x (cond b 1 0)) (number_at_place q cs)
      by true e =
          let gone : number_at_place q cs ≡ None = ap (λ z. number_at_place z cs) (sym (same_place p q e)) ∙ none in
          gone ∙ sym (ap (option_map (λ x. f x 1)) gone)
      by false e = same (number_at_place q cs)
