-- Lists in the order of stanzas: where an entry comes, and where those of a span stand.
use Rattle.std.proofs.Common.{◌≡◌, ℕ, zero, suc, ◌-◌, ◌<◌, ◌≤◌, Bool, true, false, cond, not, ◌&&◌, List, [], ◌∷◌, ◌++◌, Some, length, take, drop, filter, refl, ap, sym, ◌∙◌, arith}
use Rattle.std.specs.Prelude.{insert, slice_get}
use Rattle.std.specs.List.{AllByRecursion, slice_index_or}
use Rattle.std.specs.Option.{option_map_or}
use Rattle.std.specs.List.Sorted.{IsPartitionPoint, IsPartitionedBy}
use Rattle.std.specs.Ordering.{is_lt, is_le, is_ge, is_gt, ordering_reverse}
use Rattle.std.specs.declared.cmp.Ordering.{Ordering}
use Rattle.std.specs.declared.cmp.Ordering.TheVariants.{Less, Equal, Greater}
use Rattle.ctl_store.specs.declared.stanza_key.StanzaKey.{StanzaKey}
use Rattle.ctl_store.specs.Keys.{key_cmp}
use Rattle.ctl_index.specs.declared.span.Span.{Span}
use Rattle.ctl_index.specs.Inside.TablesOrder.{is_within, InOrder, is_before, is_through, ends_behind, put_in_order, others}
use Rattle.ctl_index.proofs.KeyLemmas.{keys_total}
use Rattle.std.proofs.lemmas.Bool.{true≢false}

-- ---- the order of keys

above_le : (a b : StanzaKey) → is_le (key_cmp b a) ≡ false → is_le (key_cmp a b) ≡ true
above_le a b h = ap is_le (keys_total.antisymm a b) ∙ by (key_cmp b a) h
  where
    by : (o : Ordering) → is_le o ≡ false → is_le (ordering_reverse o) ≡ true
    by Less h = absurd (true≢false h)
    by Equal h = absurd (true≢false h)
    by Greater h = refl

below_le : (o : Ordering) → is_lt o ≡ true → is_le o ≡ true
below_le Less h = refl
below_le Equal h = absurd (true≢false (sym h))
below_le Greater h = absurd (true≢false (sym h))

-- at or above is not below
ge-lt : (o : Ordering) → is_ge o ≡ not (is_lt o)
ge-lt Less = refl
ge-lt Equal = refl
ge-lt Greater = refl

gt-le : (o : Ordering) → is_gt o ≡ false → is_le o ≡ true
gt-le Less h = refl
gt-le Equal h = refl
gt-le Greater h = absurd (true≢false h)

le_trans : (a b c : StanzaKey) → is_le (key_cmp a b) ≡ true → is_le (key_cmp b c) ≡ true → is_le (key_cmp a c) ≡ true
le_trans a b c h k = by (key_cmp a b) refl h
  where
    less : key_cmp a b ≡ Less → (o : Ordering) → key_cmp b c ≡ o → is_le o ≡ true → is_le (key_cmp a c) ≡ true
    less p Less q t = ap is_le (keys_total.trans a b c p q)
    less p Equal q t = ap is_le (by_tie ∙ p)
      where
        by_tie : key_cmp a c ≡ key_cmp a b
        by_tie = keys_total.antisymm a c ∙ ap ordering_reverse (sym (keys_total.congr b c a q)) ∙ sym (keys_total.antisymm a b)
    less p Greater q t = absurd (true≢false (sym t))

    by : (o : Ordering) → key_cmp a b ≡ o → is_le o ≡ true → is_le (key_cmp a c) ≡ true
    by Less p t = less p (key_cmp b c) refl k
    by Equal p t = ap is_le (keys_total.congr a b c p) ∙ k
    by Greater p t = absurd (true≢false (sym t))

module _ {X : Type 0} (stanza : X → StanzaKey) where
  all_le : (a : StanzaKey) (x : X) (xs : List X) → is_le (key_cmp a (stanza x)) ≡ true → AllByRecursion (λ y. is_le (key_cmp (stanza x) (stanza y)) ≡ true) xs → AllByRecursion (λ y. is_le (key_cmp a (stanza y)) ≡ true) xs
  all_le a x [] h p = tt
  all_le a x (y ∷ ys) h p = (le_trans a (stanza x) (stanza y) h p.0, all_le a x ys h p.1)

  -- ---- an entry comes

  all_put : (a : StanzaKey) (b : X) (xs : List X) → is_le (key_cmp a (stanza b)) ≡ true → AllByRecursion (λ y. is_le (key_cmp a (stanza y)) ≡ true) xs → AllByRecursion (λ y. is_le (key_cmp a (stanza y)) ≡ true) (put_in_order stanza b xs)
  all_put a b [] h p = (h, tt)
  all_put a b (x ∷ xs) h p = by (is_through stanza (stanza b) x) (all_put a b xs h p.1)
    where
      by : (d : Bool) → AllByRecursion (λ y. is_le (key_cmp a (stanza y)) ≡ true) (put_in_order stanza b xs) → AllByRecursion (λ y. is_le (key_cmp a (stanza y)) ≡ true) (cond d (x ∷ put_in_order stanza b xs) (b ∷ x ∷ xs))
      by true rest = (p.0, rest)
      by false rest = (h, p)

  pub order_put : (a : X) (xs : List X) → InOrder stanza xs → InOrder stanza (put_in_order stanza a xs)
  order_put a [] h = (tt, tt)
  order_put a (x ∷ xs) h = by (is_through stanza (stanza a) x) refl (order_put a xs h.1)
    where
      by : (d : Bool) → is_through stanza (stanza a) x ≡ d → InOrder stanza (put_in_order stanza a xs) → InOrder stanza (cond d (x ∷ put_in_order stanza a xs) (a ∷ x ∷ xs))
      by true e rest = (all_put (stanza x) a xs e h.0, rest)
      by false e rest = ((above_le (stanza a) (stanza x) e, all_le (stanza a) x xs (above_le (stanza a) (stanza x) e) h.0), h)

  pub put_at : (a : X) (xs : List X) (i : ℕ) → i ≤ length xs → IsPartitionPoint (λ x. is_through stanza (stanza a) x ≡ true) (λ x. is_through stanza (stanza a) x ≡ false) xs i → insert xs i a ≡ put_in_order stanza a xs
  put_at a [] zero l h = refl
  put_at a [] (suc i) l h = absurd (omega (arith, l))
  put_at a (x ∷ xs) zero l h = sym (ap (λ b. cond b (x ∷ put_in_order stanza a xs) (a ∷ x ∷ xs)) (h.1 0 x (omega arith) (omega arith)))
  put_at a (x ∷ xs) (suc i) l h =
      ap (λ ys. x ∷ ys) (put_at a xs i (omega (arith, l)) ((λ k d m n. h.0 (suc k) d (omega arith) (omega (arith, n))), (λ k d m n. h.1 (suc k) d (omega (arith, m)) (omega (arith, n)))))
      ∙ sym (ap (λ b. cond b (x ∷ put_in_order stanza a xs) (a ∷ x ∷ xs)) (h.0 0 x (omega arith) (omega arith)))

  -- ---- those of a span go

  pub order_left : (p : X → Bool) (xs : List X) → InOrder stanza xs → InOrder stanza (filter p xs)
  order_left p [] h = tt
  order_left p (x ∷ xs) h = by (p x) (order_left p xs h.1)
    where
      kept : (ys : List X) → AllByRecursion (λ y. is_le (key_cmp (stanza x) (stanza y)) ≡ true) ys → AllByRecursion (λ y. is_le (key_cmp (stanza x) (stanza y)) ≡ true) (filter p ys)
      kept [] k = tt
      kept (y ∷ ys) k = at (p y) (kept ys k.1)
        where
          at : (b : Bool) → AllByRecursion (λ z. is_le (key_cmp (stanza x) (stanza z)) ≡ true) (filter p ys) → AllByRecursion (λ z. is_le (key_cmp (stanza x) (stanza z)) ≡ true) (cond b (y ∷ filter p ys) (filter p ys))
          at true rest = (k.0, rest)
          at false rest = rest

      by : (b : Bool) → InOrder stanza (filter p xs) → InOrder stanza (cond b (x ∷ filter p xs) (filter p xs))
      by true rest = (kept xs h.0, rest)
      by false rest = rest

  module _ (span : Span) where
    stays : (x : X) (b : Bool) → not (is_within span (stanza x)) ≡ b → (xs : List X) → others stanza span (x ∷ xs) ≡ cond b (x ∷ others stanza span xs) (others stanza span xs)
    stays x b h xs = ap (λ d. cond d (x ∷ others stanza span xs) (others stanza span xs)) h

    before_out : (x : X) → is_before stanza span.first x ≡ true → not (is_within span (stanza x)) ≡ true
    before_out x h = ap (λ b. not (b && is_le (key_cmp (stanza x) span.last))) (ge-lt (key_cmp (stanza x) span.first) ∙ ap not h)

    behind_out : (x : X) → is_through stanza span.last x ≡ false → not (is_within span (stanza x)) ≡ true
    behind_out x h = ap (λ b. not (is_ge (key_cmp (stanza x) span.first) && b)) h ∙ by (is_ge (key_cmp (stanza x) span.first))
      where
        by : (b : Bool) → not (b && false) ≡ true
        by true = refl
        by false = refl

    both_in : (x : X) → is_before stanza span.first x ≡ false → is_through stanza span.last x ≡ true → not (is_within span (stanza x)) ≡ false
    both_in x h k = λ i. not ((ge-lt (key_cmp (stanza x) span.first) ∙ ap not h) i && k i)

    abbrev Starts : List X → ℕ → Type 0
    Starts xs i = IsPartitionPoint (λ x. is_before stanza span.first x ≡ true) (λ x. is_before stanza span.first x ≡ false) xs i

    abbrev Ends : List X → ℕ → Type 0
    Ends xs j = IsPartitionPoint (λ x. is_through stanza span.last x ≡ true) (λ x. is_through stanza span.last x ≡ false) xs j

    -- the entries between the two places go
    pub cut_is : (xs : List X) (i j : ℕ) → i ≤ j → j ≤ length xs → Starts xs i → Ends xs j → take i xs ++ drop j xs ≡ others stanza span xs
    cut_is [] zero zero l m s e = refl
    cut_is [] zero (suc j) l m s e = absurd (omega (arith, m))
    cut_is [] (suc i) j l m s e = absurd (omega (arith, l, m))
    cut_is (x ∷ xs) zero zero l m s e =
        ap (λ ys. x ∷ ys) (cut_is xs zero zero (omega arith) (omega arith) ((λ k d a b. absurd (omega (arith, b))), (λ k d a b. s.1 (suc k) d (omega arith) (omega (arith, b)))) ((λ k d a b. absurd (omega (arith, b))), (λ k d a b. e.1 (suc k) d (omega arith) (omega (arith, b)))))
        ∙ sym (stays x true (behind_out x (e.1 0 x (omega arith) (omega arith))) xs)
    cut_is (x ∷ xs) zero (suc j) l m s e =
        cut_is xs zero j (omega arith) (omega (arith, m)) ((λ k d a b. absurd (omega (arith, b))), (λ k d a b. s.1 (suc k) d (omega arith) (omega (arith, b)))) ((λ k d a b. e.0 (suc k) d (omega arith) (omega (arith, b))), (λ k d a b. e.1 (suc k) d (omega (arith, a)) (omega (arith, b))))
        ∙ sym (stays x false (both_in x (s.1 0 x (omega arith) (omega arith)) (e.0 0 x (omega arith) (omega arith))) xs)
    cut_is (x ∷ xs) (suc i) zero l m s e = absurd (omega (arith, l))
    cut_is (x ∷ xs) (suc i) (suc j) l m s e =
        ap (λ ys. x ∷ ys) (cut_is xs i j (omega (arith, l)) (omega (arith, m)) ((λ k d a b. s.0 (suc k) d (omega arith) (omega (arith, b))), (λ k d a b. s.1 (suc k) d (omega (arith, a)) (omega (arith, b)))) ((λ k d a b. e.0 (suc k) d (omega arith) (omega (arith, b))), (λ k d a b. e.1 (suc k) d (omega (arith, a)) (omega (arith, b)))))
        ∙ sym (stays x true (before_out x (s.0 0 x (omega arith) (omega arith))) xs)

    -- none stands between them
    pub none_cut : (xs : List X) (i j : ℕ) → j ≤ i → i ≤ length xs → Starts xs i → Ends xs j → xs ≡ others stanza span xs
    none_cut [] i j l m s e = refl
    none_cut (x ∷ xs) zero j l m s e =
        let none : j ≡ 0 = omega (arith, l) in
        let out : is_through stanza span.last x ≡ false = e.1 0 x (omega (arith, none)) (omega arith) in
        ap (λ ys. x ∷ ys) (none_cut xs zero zero (omega arith) (omega arith) ((λ k d a b. absurd (omega (arith, b))), (λ k d a b. s.1 (suc k) d (omega arith) (omega (arith, b)))) ((λ k d a b. absurd (omega (arith, b))), (λ k d a b. e.1 (suc k) d (omega (arith, none)) (omega (arith, b)))))
        ∙ sym (stays x true (behind_out x out) xs)
    none_cut (x ∷ xs) (suc i) zero l m s e =
        ap (λ ys. x ∷ ys) (none_cut xs i zero (omega arith) (omega (arith, m)) ((λ k d a b. s.0 (suc k) d (omega arith) (omega (arith, b))), (λ k d a b. s.1 (suc k) d (omega (arith, a)) (omega (arith, b)))) ((λ k d a b. absurd (omega (arith, b))), (λ k d a b. e.1 (suc k) d (omega arith) (omega (arith, b)))))
        ∙ sym (stays x true (before_out x (s.0 0 x (omega arith) (omega arith))) xs)
    none_cut (x ∷ xs) (suc i) (suc j) l m s e =
        ap (λ ys. x ∷ ys) (none_cut xs i j (omega (arith, l)) (omega (arith, m)) ((λ k d a b. s.0 (suc k) d (omega arith) (omega (arith, b))), (λ k d a b. s.1 (suc k) d (omega (arith, a)) (omega (arith, b)))) ((λ k d a b. e.0 (suc k) d (omega arith) (omega (arith, b))), (λ k d a b. e.1 (suc k) d (omega (arith, a)) (omega (arith, b)))))
        ∙ sym (stays x true (before_out x (s.0 0 x (omega arith) (omega arith))) xs)

  -- ---- where halving finds them

  -- an entry at a place stands behind all before it
  first_le : (x : X) (xs : List X) → AllByRecursion (λ y. is_le (key_cmp (stanza x) (stanza y)) ≡ true) xs → (j : ℕ) (d : X) → j < length xs → is_le (key_cmp (stanza x) (stanza (slice_index_or xs j d))) ≡ true
  first_le x [] h j d l = absurd (omega (arith, l))
  first_le x (y ∷ ys) h zero d l = h.0
  first_le x (y ∷ ys) h (suc j) d l = first_le x ys h.1 j d (omega (arith, l))

  lt_through : (a b k : StanzaKey) → is_le (key_cmp a b) ≡ true → is_lt (key_cmp b k) ≡ true → is_lt (key_cmp a k) ≡ true
  lt_through a b k h g = by (key_cmp a b) refl h
    where
      less : (o : Ordering) → is_lt o ≡ true → o ≡ Less
      less Less p = refl
      less Equal p = absurd (true≢false (sym p))
      less Greater p = absurd (true≢false (sym p))

      by : (o : Ordering) → key_cmp a b ≡ o → is_le o ≡ true → is_lt (key_cmp a k) ≡ true
      by Less p t = ap is_lt (keys_total.trans a b k p (less (key_cmp b k) g))
      by Equal p t = ap is_lt (keys_total.congr a b k p) ∙ g
      by Greater p t = absurd (true≢false (sym t))

  pub parted_before : (k : StanzaKey) (xs : List X) → InOrder stanza xs → IsPartitionedBy (is_before stanza k) xs
  parted_before k [] h i j d l m p = absurd (omega (arith, m))
  parted_before k (x ∷ xs) h zero zero d l m p = p
  parted_before k (x ∷ xs) h zero (suc j) d l m p = lt_through (stanza x) (stanza (slice_index_or xs j d)) k (first_le x xs h.0 j d (omega (arith, m))) p
  parted_before k (x ∷ xs) h (suc i) zero d l m p = absurd (omega (arith, l))
  parted_before k (x ∷ xs) h (suc i) (suc j) d l m p = parted_before k xs h.1 i j d (omega (arith, l)) (omega (arith, m)) p

  pub parted_through : (k : StanzaKey) (xs : List X) → InOrder stanza xs → IsPartitionedBy (is_through stanza k) xs
  parted_through k [] h i j d l m p = absurd (omega (arith, m))
  parted_through k (x ∷ xs) h zero zero d l m p = p
  parted_through k (x ∷ xs) h zero (suc j) d l m p = le_trans (stanza x) (stanza (slice_index_or xs j d)) k (first_le x xs h.0 j d (omega (arith, m))) p
  parted_through k (x ∷ xs) h (suc i) zero d l m p = absurd (omega (arith, l))
  parted_through k (x ∷ xs) h (suc i) (suc j) d l m p = parted_through k xs h.1 i j d (omega (arith, l)) (omega (arith, m)) p

  -- where the last isn't behind, none is
  abbrev last_of : X → List X → X
  last_of x [] = x
  last_of x (y ∷ ys) = last_of y ys

  last_at : (x : X) (xs : List X) → slice_get (x ∷ xs) (length xs) ≡ Some (last_of x xs)
  last_at x [] = refl
  last_at x (y ∷ ys) = last_at y ys

  all_to_last : (k : StanzaKey) (x : X) (xs : List X) → InOrder stanza (x ∷ xs) → is_le (key_cmp (stanza (last_of x xs)) k) ≡ true → AllByRecursion (λ y. is_through stanza k y ≡ true) (x ∷ xs)
  all_to_last k x [] h p = (p, tt)
  all_to_last k x (y ∷ ys) h p = let rest = all_to_last k y ys h.1 p in (le_trans (stanza x) (stanza y) k h.0.0 rest.0, rest)

  all_at : (P : X → Type 0) (xs : List X) → AllByRecursion P xs → (j : ℕ) (d : X) → j < length xs → P (slice_index_or xs j d)
  all_at P [] h j d l = absurd (omega (arith, l))
  all_at P (x ∷ xs) h zero d l = h.0
  all_at P (x ∷ xs) h (suc j) d l = all_at P xs h.1 j d (omega (arith, l))

  pub through_all : (k : StanzaKey) (xs : List X) → InOrder stanza xs → ends_behind stanza k xs ≡ false → IsPartitionPoint (λ x. is_through stanza k x ≡ true) (λ x. is_through stanza k x ≡ false) xs (length xs)
  through_all k xs h e = ((λ j d a b. all_at (λ x. is_through stanza k x ≡ true) xs (all xs h e) j d b), (λ j d a b. absurd (omega (arith, a, b))))
    where
      all : (ys : List X) → InOrder stanza ys → ends_behind stanza k ys ≡ false → AllByRecursion (λ y. is_through stanza k y ≡ true) ys
      all [] g f = tt
      all (y ∷ ys) g f =
          let place : length (y ∷ ys) - 1 ≡ length ys = omega arith in
          let last : slice_get (y ∷ ys) (length (y ∷ ys) - 1) ≡ Some (last_of y ys) = ap (slice_get (y ∷ ys)) place ∙ last_at y ys in
          all_to_last k y ys g (gt-le (key_cmp (stanza (last_of y ys)) k) (sym (ap (λ o. option_map_or (λ x. is_gt (key_cmp (stanza x) k)) o false) last) ∙ f))
