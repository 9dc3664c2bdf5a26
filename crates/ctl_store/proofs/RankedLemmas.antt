-- Pairs of serials and labels, in the order of the labels.
use Rattle.std.proofs.Common.{◌≡◌, ℕ, zero, suc, ◌<◌, ◌≤◌, Bool, true, false, cond, List, [], ◌∷◌, ◌++◌, length, Option, None, Some, is_some, option_map, refl, ap, sym, subst, ◌∙◌, arith, ◌+◌, nat_eq, map, get_or}
use Rattle.std.specs.List.{AllByRecursion, find, slice_get, insert, remove}
use Rattle.std.specs.Cmp.{IsTotalOrder}
use Rattle.std.specs.Ordering.{is_gt, is_lt, is_eq}
use Rattle.std.specs.declared.cmp.Ordering.{Ordering}
use Rattle.std.proofs.lemmas.Cmp.{upto}
use Rattle.ctl_store.specs.Places.{place, has_serial, Rises, replace_at}
use Rattle.ctl_store.specs.Inside.Sorted.{insert_in, sorted_in, below_in, labelled, order_in, place_in, IsRankedBy}
use Rattle.ctl_store.proofs.PlaceLemmas.{some_is, none_is, eq_is, lt_ne, place_within, place-map, Rises-replace, Rises-remove, all_map, all_zip}
use Rattle.std.specs.List.Sorted.{IsPartitionedBy, IsPartitionPoint}
use Rattle.std.specs.Map.{lookup}
use Rattle.std.specs.Option.{option_map_or}
use Rattle.std.specs.declared.cmp.Ordering.TheVariants.{Less}
use Rattle.std.proofs.lemmas.Option.{get_or_from_slice_get, slice_get-get_or, slice_get-map, slice_get_past}
use Rattle.std.proofs.lemmas.List.{length-map, map-append}
use Rattle.indexmap.proofs.SetLemmas.{map-insert, map-remove}
use Rattle.ctl_ordered.proofs.SlotLemmas.{rises_last}

pub all_get : {X : Type 0} (P : X → Type 0) (xs : List X) (k : ℕ) (x : X) → AllByRecursion P xs → slice_get xs k ≡ Some x → P x
all_get P [] k x h e = cc
all_get P (y ∷ xs) zero x h e = subst P (some_is e) h.0
all_get P (y ∷ xs) (suc k) x h e = all_get P xs k x h.1 e

module _ {L : Type 0} (R : L → L → Ordering) where
  abbrev pub g : L → L → Bool
  g a b = is_gt (R a b)

  abbrev is_at : L → ℕ × L → Bool
  is_at q x = is_eq (R x.1 q)

  abbrev pub IsInOrder : List (ℕ × L) → Type 0
  IsInOrder [] = Unit {0}
  IsInOrder (y ∷ ys) = AllByRecursion (λ z. g y.1 z.1 ≡ false) ys × IsInOrder ys

  abbrev pub if_at : L → Option (ℕ × L) → Option (ℕ × L)
  if_at q None = None
  if_at q (Some x) = cond (is_eq (R x.1 q)) (Some x) None

  abbrev put_upper : ℕ × L → List (ℕ × L) → List (ℕ × L)
  put_upper r [] = r ∷ []
  put_upper r (y ∷ ys) = cond (g y.1 r.1) (r ∷ y ∷ ys) (y ∷ put_upper r ys)

  abbrev pub drop_first : L → List (ℕ × L) → List (ℕ × L)
  drop_first q [] = []
  drop_first q (x ∷ xs) = cond (is_eq (R x.1 q)) xs (x ∷ drop_first q xs)

  length-insert_in : (x : ℕ × L) (ys : List (ℕ × L)) → length (insert_in R x ys) ≡ suc (length ys)
  length-insert_in x [] = refl
  length-insert_in x (y ∷ ys) = grind (arith, length-insert_in x ys)

  pub length-sorted_in : (xs : List (ℕ × L)) → length (sorted_in R xs) ≡ length xs
  length-sorted_in [] = refl
  length-sorted_in (x ∷ xs) = length-insert_in x (sorted_in R xs) ∙ ap (λ k. suc k) (length-sorted_in xs)

  module _ (total : IsTotalOrder R) where
    asym : (a b : L) → g a b ≡ true → g b a ≡ false
    asym a b e = grind (arith, total.antisymm a b)

    pub lt_back : (a b : L) → is_lt (R a b) ≡ g b a
    lt_back a b = grind (arith, total.antisymm a b)

    pub up : (a b c : L) → g a b ≡ false → g b c ≡ false → g a c ≡ false
    up a b c p q = upto total a b c p q

    -- of two one is greater, or they are equal
    eq_else : (a b : L) → g b a ≡ false → is_eq (R a b) ≡ false → g a b ≡ true
    eq_else a b p q = grind arith

    eq_not_lt : (a b : L) → is_eq (R a b) ≡ true → g b a ≡ false
    eq_not_lt a b e = grind arith

    -- ---- all of them

    module _ (P : ℕ × L → Type 0) where
      pub all_insert : (x : ℕ × L) (ys : List (ℕ × L)) → P x → AllByRecursion P ys → AllByRecursion P (insert_in R x ys)
      all_insert x [] p h = (p, tt)
      all_insert x (y ∷ ys) p h = grind (arith, all_insert x ys p h.1)

      pub all_sorted : (xs : List (ℕ × L)) → AllByRecursion P xs → AllByRecursion P (sorted_in R xs)
      all_sorted [] h = tt
      all_sorted (x ∷ xs) h = all_insert x (sorted_in R xs) h.0 (all_sorted xs h.1)

    -- ---- the order

    in_order_insert : (x : ℕ × L) (ys : List (ℕ × L)) → IsInOrder ys → IsInOrder (insert_in R x ys)
    in_order_insert x [] h = (tt, tt)
    in_order_insert x (y ∷ ys) h = grind (arith, all_insert, asym, all_map, up, in_order_insert x ys h.1)

    pub in_order : (xs : List (ℕ × L)) → IsInOrder (sorted_in R xs)
    in_order [] = tt
    in_order (x ∷ xs) = in_order_insert x (sorted_in R xs) (in_order xs)

    -- ---- the first at a label

    find-insert : (q : L) (x : ℕ × L) (ys : List (ℕ × L)) → find (is_at q) (insert_in R x ys) ≡ cond (is_at q x) (Some x) (find (is_at q) ys)
    find-insert q x [] = refl
    find-insert q x (y ∷ ys) = grind (arith, find-insert q x ys)

    -- the first of the slots is the first of them in order
    pub find-sorted : (q : L) (xs : List (ℕ × L)) → find (is_at q) (sorted_in R xs) ≡ find (is_at q) xs
    find-sorted q [] = refl
    find-sorted q (x ∷ xs) = find-insert q x (sorted_in R xs) ∙ ap (cond (is_at q x) (Some x)) (find-sorted q xs)

    none_above : (q : L) (y : ℕ × L) (ys : List (ℕ × L)) → g y.1 q ≡ true → AllByRecursion (λ z. g y.1 z.1 ≡ false) ys → find (is_at q) ys ≡ None
    none_above q y [] e h = refl
    none_above q y (z ∷ ys) e h = grind (arith, none_above q y ys e h.1)

    lower_not : (q : L) (y : ℕ × L) → is_lt (R y.1 q) ≡ true → is_at q y ≡ false
    lower_not q y e = grind arith

    -- it stands where halving leads, if anywhere
    found_at_lower : (q : L) (ys : List (ℕ × L)) → IsInOrder ys → find (is_at q) ys ≡ if_at q (slice_get ys (below_in R q ys))
    found_at_lower q [] h = refl
    found_at_lower q (y ∷ ys) h = grind (arith, none_above, eq_else, lt_back, lower_not, found_at_lower q ys h.1)

    pub found : (q : L) (xs : List (ℕ × L)) → find (is_at q) xs ≡ if_at q (slice_get (sorted_in R xs) (below_in R q (sorted_in R xs)))
    found q xs = sym (find-sorted q xs) ∙ found_at_lower q (sorted_in R xs) (in_order xs)

    -- ---- a last slot

    insert-put_upper : (x r : ℕ × L) (ys : List (ℕ × L)) → insert_in R x (put_upper r ys) ≡ put_upper r (insert_in R x ys)
    insert-put_upper x r [] = refl
    insert-put_upper x r (y ∷ ys) = grind (arith, insert-put_upper x r ys)

    sorted-push : (xs : List (ℕ × L)) (r : ℕ × L) → sorted_in R (xs ++ r ∷ []) ≡ put_upper r (sorted_in R xs)
    sorted-push [] r = refl
    sorted-push (x ∷ xs) r = ap (insert_in R x) (sorted-push xs r) ∙ insert-put_upper x r (sorted_in R xs)

    put_upper-insert : (r : ℕ × L) (ys : List (ℕ × L)) → find (is_at r.1) ys ≡ None → put_upper r ys ≡ insert ys (below_in R r.1 ys) r
    put_upper-insert r [] e = refl
    put_upper-insert r (y ∷ ys) e = grind (arith, put_upper-insert r ys)

    -- where none has its label, a last slot goes where halving leads
    pub sorted-append : (xs : List (ℕ × L)) (r : ℕ × L) → find (is_at r.1) xs ≡ None → sorted_in R (xs ++ r ∷ []) ≡ insert (sorted_in R xs) (below_in R r.1 (sorted_in R xs)) r
    sorted-append xs r e = sorted-push xs r ∙ put_upper-insert r (sorted_in R xs) (find-sorted r.1 xs ∙ e)

    -- ---- a slot that goes

    head_insert : (r y : ℕ × L) (ys : List (ℕ × L)) → g r.1 y.1 ≡ false → AllByRecursion (λ z. g y.1 z.1 ≡ false) ys → insert_in R r ys ≡ r ∷ ys
    head_insert r y [] e h = refl
    head_insert r y (z ∷ ys) e h = ap (λ t. cond t (z ∷ insert_in R r ys) (r ∷ z ∷ ys)) (up r.1 y.1 z.1 e h.0)

    -- the slot itself is the first that goes
    drop_first-insert_at : (q : L) (r : ℕ × L) (ys : List (ℕ × L)) → is_at q r ≡ true → drop_first q (insert_in R r ys) ≡ ys
    drop_first-insert_at q r [] e = ap (λ t. cond t [] (r ∷ [])) e
    drop_first-insert_at q r (y ∷ ys) e = grind (arith, drop_first-insert_at q r ys e)

    drop_first-insert : (q : L) (r : ℕ × L) (ys : List (ℕ × L)) → IsInOrder ys → is_at q r ≡ false → drop_first q (insert_in R r ys) ≡ insert_in R r (drop_first q ys)
    drop_first-insert q r [] h e = ap (λ t. cond t [] (r ∷ [])) e
    drop_first-insert q r (y ∷ ys) h e = grind (arith, head_insert, drop_first-insert q r ys h.1 e)

    sorted-drop_first : (q : L) (xs : List (ℕ × L)) → sorted_in R (drop_first q xs) ≡ drop_first q (sorted_in R xs)
    sorted-drop_first q [] = refl
    sorted-drop_first q (x ∷ xs) = grind (arith, drop_first-insert_at, drop_first-insert, in_order, sorted-drop_first q xs)

    -- what goes stands where halving leads
    drop_first-lower : (q : L) (ys : List (ℕ × L)) → IsInOrder ys → is_some (find (is_at q) ys) ≡ true → drop_first q ys ≡ remove ys (below_in R q ys)
    drop_first-lower q [] h e = cc
    drop_first-lower q (x ∷ ys) h e = grind (arith, none_above, eq_else, lt_back, eq_not_lt, drop_first-lower q ys h.1)

    drop_first-place : (q : L) (xs : List (ℕ × L)) (i : ℕ) → place (λ x. is_eq (R x.1 q)) xs ≡ Some i → drop_first q xs ≡ remove xs i
    drop_first-place q [] i e = cc
    drop_first-place q (x ∷ xs) i e = grind (arith, drop_first-place q xs)

    -- one has a label where there is a place of it
    some-place : (q : L) (xs : List (ℕ × L)) → is_some (place (λ x. is_eq (R x.1 q)) xs) ≡ is_some (find (is_at q) xs)
    some-place q [] = refl
    some-place q (x ∷ xs) = grind (arith, some-place q xs)

    -- after a slot at the first place of a label goes
    pub sorted-remove : (q : L) (xs : List (ℕ × L)) (i : ℕ) → place (λ x. is_eq (R x.1 q)) xs ≡ Some i → sorted_in R (remove xs i) ≡ remove (sorted_in R xs) (below_in R q (sorted_in R xs))
    sorted-remove q xs i e =
        sym (ap (sorted_in R) (drop_first-place q xs i e))
        ∙ sorted-drop_first q xs
        ∙ drop_first-lower q (sorted_in R xs) (in_order xs) (ap is_some (find-sorted q xs) ∙ sym (some-place q xs) ∙ ap is_some e)

    -- ---- places and serials

    from_front : (q : L) (n : ℕ) (xs : List (ℕ × L)) (m : ℕ) (y : ℕ × L) → Rises n xs m → find (is_at q) xs ≡ Some y → n ≤ y.0
    from_front q n [] m y h e = cc
    from_front q n (x ∷ xs) m y h e = grind (arith, from_front q (suc x.0) xs m y h.1)

    -- the place of the first is that of its serial
    pub place-find : (q : L) (n : ℕ) (xs : List (ℕ × L)) (m : ℕ) (y : ℕ × L) → Rises n xs m → find (λ x. is_eq (R x.1 q)) xs ≡ Some y → place (λ x. is_eq (R x.1 q)) xs ≡ place (has_serial y.0) xs
    place-find q n [] m y h e = refl
    place-find q n (x ∷ xs) m y h e = grind (arith, eq_is, some_is, lt_ne, from_front, place-find q (suc x.0) xs m y h.1)

    pub place-find_none : (q : L) (xs : List (ℕ × L)) → find (λ x. is_eq (R x.1 q)) xs ≡ None → place (λ x. is_eq (R x.1 q)) xs ≡ None
    place-find_none q xs e = none_is (place (λ x. is_eq (R x.1 q)) xs) (some-place q xs ∙ ap is_some e)

    -- ---- what stands before the place where halving leads, and from it on

    pub before_lower : (q : L) (ys : List (ℕ × L)) (k : ℕ) (y : ℕ × L) → k < below_in R q ys → slice_get ys k ≡ Some y → is_lt (R y.1 q) ≡ true
    before_lower q [] k y l e = absurd (omega arith)
    before_lower q (x ∷ ys) zero y l e = grind arith
    before_lower q (x ∷ ys) (suc k) y l e = grind (arith, before_lower q ys k y)

    below_next : (q : L) (x : ℕ × L) (ys : List (ℕ × L)) (k : ℕ) (y : ℕ × L) → is_lt (R x.1 q) ≡ false → AllByRecursion (λ z. g x.1 z.1 ≡ false) ys → slice_get ys k ≡ Some y → is_lt (R y.1 q) ≡ false
    below_next q x ys k y w h e = lt_back y.1 q ∙ up q x.1 y.1 (sym (lt_back x.1 q) ∙ w) (all_get (λ z. g x.1 z.1 ≡ false) ys k y h e)

    from_lower_in : (q : L) (ys : List (ℕ × L)) (k : ℕ) (y : ℕ × L) → IsInOrder ys → below_in R q ys ≤ k → slice_get ys k ≡ Some y → is_lt (R y.1 q) ≡ false
    from_lower_in q [] k y h l e = cc
    from_lower_in q (x ∷ ys) zero y h l e = grind arith
    from_lower_in q (x ∷ ys) (suc k) y h l e = grind (arith, below_next, from_lower_in q ys k y h.1)

    pub from_lower : (q : L) (xs : List (ℕ × L)) (k : ℕ) (y : ℕ × L) → below_in R q (sorted_in R xs) ≤ k → slice_get (sorted_in R xs) k ≡ Some y → is_lt (R y.1 q) ≡ false
    from_lower q xs k y l e = from_lower_in q (sorted_in R xs) k y (in_order xs) l e

    pub lower_within : (q : L) (ys : List (ℕ × L)) → below_in R q ys ≤ length ys
    lower_within q [] = omega arith
    lower_within q (y ∷ ys) = grind (arith, lower_within q ys)

-- ---- what an order of labels says of the slots, and how it changes with them

module _ {L : Type 0} where
  -- ---- each serial of the order leads to its slot

  pub all_from : (n : ℕ) (xs : List (ℕ × L)) (m : ℕ) → Rises n xs m → AllByRecursion (λ (x : ℕ × L). n ≤ x.0) xs
  all_from n [] m h = tt
  all_from n (x ∷ xs) m h = (h.0, all_map (λ y k. omega (arith, h.0, k)) xs (all_from (suc x.0) xs m h.1))

  pub all_lookup : (n : ℕ) (xs : List (ℕ × L)) (m : ℕ) → Rises n xs m → AllByRecursion (λ (x : ℕ × L). lookup (λ k. nat_eq k x.0) xs ≡ Some x.1) xs
  all_lookup n [] m h = tt
  all_lookup n (x ∷ xs) m h = (
    ap (λ b. cond b (Some x.1) (lookup (λ k. nat_eq k x.0) xs)) (eq_is x.0 x.0 refl),
    all_zip (λ y k e. ap (λ b. cond b (Some x.1) (lookup (λ k. nat_eq k y.0) xs)) (lt_ne x.0 y.0 (omega (arith, k))) ∙ e) xs (all_from (suc x.0) xs m h.1) (all_lookup (suc x.0) xs m h.1),
  )

  some_below : (xs : List (ℕ × L)) (k : ℕ) → k < length xs → (y : ℕ × L) × (slice_get xs k ≡ Some y)
  some_below [] k l = absurd (omega arith)
  some_below (x ∷ xs) zero l = (x, refl)
  some_below (x ∷ xs) (suc k) l = some_below xs k (omega arith)

module _ {L : Type 0} (R : L → L → Ordering) (total : IsTotalOrder R) {T : Type 0} (label : ℕ × T → L) where
  -- ---- slots and their labels

  place-labels : (q : L) (slots : List (ℕ × T)) → place_in R label q slots ≡ place (λ (x : ℕ × L). is_eq (R x.1 q)) (labelled label slots)
  place-labels q slots = sym (place-map (λ (r : ℕ × T). (r.0, label r)) (λ x. is_eq (R x.1 q)) slots)

  serial-labels : (s : ℕ) (slots : List (ℕ × T)) → place (has_serial s) (labelled label slots) ≡ place (has_serial s) slots
  serial-labels s slots = place-map (λ (r : ℕ × T). (r.0, label r)) (has_serial s) slots

  pub lookup-labels : (s : ℕ) (slots : List (ℕ × T)) → lookup (λ k. nat_eq k s) (labelled label slots) ≡ option_map (λ (x : T). label (s, x)) (lookup (λ k. nat_eq k s) slots)
  lookup-labels s [] = refl
  lookup-labels s (r ∷ slots) = grind (arith, lookup-labels s slots)

  pub Rises-labels : (n : ℕ) (slots : List (ℕ × T)) (m : ℕ) → Rises n slots m → Rises n (labelled label slots) m
  Rises-labels n [] m h = h
  Rises-labels n (r ∷ slots) m h = (h.0, Rises-labels (suc r.0) slots m h.1)

  -- an item of the same label
  labels-replace : (slots : List (ℕ × T)) (i : ℕ) (x : T) → i < length slots → ((d : ℕ × T) → label (get_or slots i d) ≡ label ((get_or slots i d).0, x)) → labelled label (replace_at slots i x) ≡ labelled label slots
  labels-replace [] i x l e = refl
  labels-replace (r ∷ slots) zero x l e = ap (λ (t : L). (r.0, t) ∷ labelled label slots) (sym (e r))
  labels-replace (r ∷ slots) (suc i) x l e = ap (λ l. (r.0, label r) ∷ l) (labels-replace slots i x (omega arith) e)

  order-found : (slots : List (ℕ × T)) (q : L) (y : ℕ × L) → lookup (λ k. nat_eq k y.0) (labelled label slots) ≡ Some y.1 → order_in R label slots q y.0 ≡ R y.1 q
  order-found slots q y e = by (lookup (λ k. nat_eq k y.0) slots) (sym (lookup-labels y.0 slots) ∙ e)
    where
      by : (o : Option T) → option_map (λ (x : T). label (y.0, x)) o ≡ Some y.1 → option_map_or (λ (x : T). R (label (y.0, x)) q) o Less ≡ R y.1 q
      by o e = grind arith

  module _ (slots : List (ℕ × T)) (next : ℕ) (rises : Rises 0 slots next) where
    pub order-sorted : (q : L) (k : ℕ) (y : ℕ × L) → slice_get (sorted_in R (labelled label slots)) k ≡ Some y → order_in R label slots q y.0 ≡ R y.1 q
    order-sorted q k y e = grind (arith, order-found, q, all_get, k, all_sorted, all_lookup, Rises-labels)

  -- An order of entries, with a test that tells of each how its slot stands to a label.
  module _ {E : Type 0} (entry : ℕ × L → E) (slots : List (ℕ × T)) (next : ℕ) (order : List E) (kept : IsRankedBy R label entry slots next order) (q : L) (o : E → Ordering)
      (tells : (k : ℕ) (y : ℕ × L) → slice_get (sorted_in R (labelled label slots)) k ≡ Some y → o (entry y) ≡ R y.1 q) where
    abbrev sorted : List (ℕ × L)
    sorted = sorted_in R (labelled label slots)

    read : (k : ℕ) (d : E) → k < length order → (y : ℕ × L) × (slice_get sorted k ≡ Some y) × (o (get_or order k d) ≡ R y.1 q)
    read k d w =
        let y = some_below sorted k (omega (arith, ap length kept.ordered, length-map sorted entry)) in
        (y.0, y.1, ap (λ (s : List E). o (get_or s k d)) kept.ordered ∙ ap o (get_or_from_slice_get (map entry sorted) k (entry y.0) d (slice_get-map entry sorted k ∙ ap (option_map entry) y.1)) ∙ tells k y.0 y.1)

    below : (k : ℕ) (d : E) → k < length order → k < below_in R q sorted → is_lt (o (get_or order k d)) ≡ true
    below k d w l = let y = read k d w in ap is_lt y.2 ∙ before_lower R total q sorted k y.0 l y.1

    above : (k : ℕ) (d : E) → k < length order → below_in R q sorted ≤ k → is_lt (o (get_or order k d)) ≡ false
    above k d w l = let y = read k d w in ap is_lt y.2 ∙ from_lower R total q (labelled label slots) k y.0 l y.1

    -- the smaller ones stand first
    pub parted : IsPartitionedBy (λ s. is_lt (o s)) order
    parted i j d le l e = grind (arith, below, above)

    pub below_length : below_in R q sorted ≤ length order
    below_length = omega (arith, lower_within R total q sorted, ap length kept.ordered, length-map sorted entry)

    -- the place where they end is the one that halving finds
    pub below_is : (d : E) (r : ℕ) → r ≤ length order → IsPartitionPoint (λ s. is_lt (o s) ≡ true) (λ s. is_lt (o s) ≡ false) order r → r ≡ below_in R q sorted
    below_is d r w h =
        grind (arith, below r d, below_length, above (below_in R q sorted) d, h.0 (below_in R q sorted) d, h.1 r d)

    -- ---- the first slot of a label

    module _ (serial : E → ℕ) (serial_is : (y : ℕ × L) → serial (entry y) ≡ y.0) where
      abbrev pub at_place : Option E → Option ℕ
      at_place None = None
      at_place (Some s) = cond (is_eq (o s)) (place (has_serial (serial s)) slots) None

      found_place : place_in R label q slots ≡ at_place (slice_get order (below_in R q sorted))
      found_place =
          place-labels q slots
          ∙ by (slice_get sorted (below_in R q sorted)) refl
          ∙ sym (ap (λ (s : List E). at_place (slice_get s (below_in R q sorted))) kept.ordered ∙ ap at_place (slice_get-map entry sorted (below_in R q sorted)))
        where
          by : (x : Option (ℕ × L)) → slice_get sorted (below_in R q sorted) ≡ x → place (λ (x : ℕ × L). is_eq (R x.1 q)) (labelled label slots) ≡ at_place (option_map entry x)
          by None e = place-find_none R total q (labelled label slots) (found R total q (labelled label slots) ∙ ap (if_at R q) e)
          by (Some y) e = test (is_eq (R y.1 q)) refl
            where
              test : (b : Bool) → is_eq (R y.1 q) ≡ b → place (λ (x : ℕ × L). is_eq (R x.1 q)) (labelled label slots) ≡ cond (is_eq (o (entry y))) (place (has_serial (serial (entry y))) slots) None
              test b k = grind (arith, place-find, q, Rises-labels, found, if_at, k, serial-labels, tells, serial_is, place-find_none)

      pub found_here : (at : ℕ) (d : E) → at ≡ below_in R q sorted → at < length order → place_in R label q slots ≡ cond (is_eq (o (get_or order at d))) (place (has_serial (serial (get_or order at d))) slots) None
      found_here at d e l = found_place ∙ ap (λ k. at_place (slice_get order k)) (sym e) ∙ ap at_place (slice_get-get_or order at d l)

      pub found_past : (at : ℕ) → at ≡ below_in R q sorted → length order ≤ at → place_in R label q slots ≡ None
      found_past at e l = found_place ∙ ap (λ k. at_place (slice_get order k)) (sym e) ∙ ap at_place (slice_get_past order at l)

      -- the place of a slot that is there lies in the order
      pub below_there : (i : ℕ) → place_in R label q slots ≡ Some i → below_in R q sorted < length order
      below_there i e = grind (arith, below_length, found_past)

  -- ---- the order after a change

  module _ {E : Type 0} (entry : ℕ × L → E) (slots : List (ℕ × T)) (next : ℕ) (order : List E) (kept : IsRankedBy R label entry slots next order) where
    pub ranked_replace : (x : T) (i : ℕ) → i < length slots → ((d : ℕ × T) → label (get_or slots i d) ≡ label ((get_or slots i d).0, x)) → IsRankedBy R label entry (replace_at slots i x) next order
    ranked_replace x i l e = record {
      rises = Rises-replace 0 slots next i x kept.rises;
      ordered = kept.ordered ∙ ap (λ xs. map entry (sorted_in R xs)) (sym (labels-replace slots i x l e));
    }

    pub ranked_push : (x : T) → place_in R label (label (next, x)) slots ≡ None → IsRankedBy R label entry (slots ++ (next, x) ∷ []) (next + 1) (insert order (below_in R (label (next, x)) (sorted_in R (labelled label slots))) (entry (next, label (next, x))))
    ranked_push x e = record {
      rises = rises_last x 0 slots next kept.rises;
      ordered =
          ap (λ (s : List E). insert s k (entry (next, q))) kept.ordered
          ∙ sym (map-insert entry (sorted_in R (labelled label slots)) k (next, q))
          ∙ ap (map entry) (sym (sorted-append R total (labelled label slots) (next, q) (none_is _ (sym (some-place R total q (labelled label slots)) ∙ ap is_some (sym (place-labels q slots) ∙ e)))))
          ∙ ap (λ xs. map entry (sorted_in R xs)) (sym (map-append (λ (r : ℕ × T). (r.0, label r)) slots ((next, x) ∷ [])));
    }
      where
        q : L
        q = label (next, x)

        k : ℕ
        k = below_in R q (sorted_in R (labelled label slots))

    pub ranked_remove : (q : L) (i : ℕ) → place_in R label q slots ≡ Some i → IsRankedBy R label entry (remove slots i) next (remove order (below_in R q (sorted_in R (labelled label slots))))
    ranked_remove q i e = record {
      rises = Rises-remove 0 slots next i kept.rises (place_within (λ (slot : ℕ × T). is_eq (R (label slot) q)) slots i e);
      ordered =
          ap (λ (s : List E). remove s k) kept.ordered
          ∙ sym (map-remove entry (sorted_in R (labelled label slots)) k)
          ∙ ap (map entry) (sym (sorted-remove R total q (labelled label slots) i (sym (place-labels q slots) ∙ e)))
          ∙ ap (λ xs. map entry (sorted_in R xs)) (sym (map-remove (λ (r : ℕ × T). (r.0, label r)) slots i));
    }
      where
        k : ℕ
        k = below_in R q (sorted_in R (labelled label slots))
