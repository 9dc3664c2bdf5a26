-- What the order of the slots of a list says of the slots, and how it changes with them.
use Rattle.std.proofs.Common.{◌≡◌, ℕ, ◌+◌, ◌<◌, ◌≤◌, true, cond, ◌&&◌, List, [], ◌∷◌, ◌++◌, length, get_or, Option, None, Some, refl, ap, sym, ◌∙◌, arith, zero, suc, map, take, drop, subst, false, Bool, not, sum_by}
use Rattle.std.specs.List.{insert, remove, slice_get, AllByRecursion, IsAllAdjacentAnswer}
use Rattle.std.specs.Cmp.{IsTotalOrder, nat_cmp_total, tied_itself}
use Rattle.std.specs.Cmp.Lexicographic.{options_total, nat_list_cmp_total, slice_cmp}
use Rattle.std.specs.Ordering.{ordering_then, is_eq, nat_cmp, is_lt, is_gt}
use Rattle.std.specs.declared.cmp.Ordering.{Ordering}
use Rattle.std.proofs.lemmas.Cmp.{on_total, then_total, upto}
use Rattle.std.proofs.lemmas.Map.Text.{is_eq-slice_cmp}
use Rattle.std.proofs.lemmas.Slice.Eq.{bytes_eq-Decides}
use Rattle.ctl_relation.specs.Version.{triple_cmp, triple_of, version_cmp}
use Rattle.std.specs.Str.{bytes_eq}
use Rattle.ctl_relation.specs.Orders.Versions.{equal_versions, triple_total}
use Rattle.ctl_stanza.specs.Content.{Content, package_of, version_of}
use Rattle.ctl_store.specs.Step.{place, is_same, is_same_version}
use Rattle.ctl_store.specs.Inside.Sorted.{place_in, insert_in}
use Rattle.ctl_store.specs.declared.fronts.Placed.{Placed}
use Rattle.ctl_store.specs.Slots.{Id, id, id_of, slot_id, version_id, version_order, id_cmp, ids_of, sorted_ids, lower, has_serial, HasOrder, by_name_and_version, replace_at, placed, placed_slot, placed_at, placed_cmp, sorted_placed, Rises, slots_from, id_under, serial_cmp}
use Rattle.std.proofs.lemmas.Bool.{and_parts}
use Rattle.ctl_store.proofs.PlaceLemmas.{place_within, place_passes, equal_is, Rises-slots_from, all_map}
use Rattle.ctl_store.proofs.RankedLemmas.{found_here as ranked_here, found_past as ranked_past, parted, below_is, order-sorted, ranked_replace, ranked_push, ranked_remove, length-sorted_in, g, lt_back, all_insert, all_sorted, all_from, all_lookup, lookup-labels, Rises-labels}
use Rattle.ctl_store.specs.Keys.{KeyedList, key_of, key_at}
use Rattle.std.proofs.lemmas.List.{length-map}
use Rattle.std.specs.Option.{option_cmp}
use Rattle.std.specs.declared.cmp.Ordering.TheVariants.{Less, Equal, Greater}
use Rattle.ctl_store.specs.Fronts.{front_of}
use Rattle.ctl_store.proofs.FrontLemmas.{fronts_tell}
use Rattle.std.specs.Bool.{OnTrue}
use Rattle.std.specs.List.Sorted.{IsPartitionedBy, IsPartitionPoint, IsPermutation, IsSortedBy}
use Rattle.std.proofs.lemmas.List.Sorted.{sum_by-IsPermutation, sorted_far, ranks_by}
use Rattle.std.proofs.lemmas.List.Sums.{sum_by-cons}

pub id_total : IsTotalOrder id_cmp
id_total = then_total (on_total (λ (a : Id). a.name) nat_list_cmp_total) (on_total (λ (a : Id). a.version) (options_total triple_total))

-- ---- a name and a version, and the test of a stanza for them

is_eq-then : (o p : Ordering) → is_eq (ordering_then o p) ≡ (is_eq o && is_eq p)
is_eq-then o p = grind arith

is_eq-versions : (v w : Option (List ℕ)) → is_eq (version_order (version_id v) (version_id w)) ≡ is_same_version v w
is_eq-versions v w = grind arith

same_id : (name : List ℕ) (version : Option (List ℕ)) (x : Content) → is_same name version x ≡ is_eq (id_cmp (id_of x) (id name version))
same_id name version x = grind (arith, is_eq-then, is_eq-slice_cmp, is_eq-versions)

same_versions : (v w : Option (List ℕ)) → is_same_version v w ≡ true → version_id v ≡ version_id w
same_versions None None e = refl
same_versions None (Some w) e = cc
same_versions (Some v) None e = cc
same_versions (Some v) (Some w) e = ap Some ((equal_versions v w).0 (equal_is (version_cmp v w) e))

-- versions of one text are equal
pub one_text : (v w : List ℕ) → bytes_eq v w ≡ true → Equal ≡ version_order (Some (triple_of v)) (Some (triple_of w))
one_text v w e = sym (tied_itself triple_total (triple_of v)) ∙ ap (λ t. triple_cmp (triple_of v) (triple_of t)) ((bytes_eq-Decides v w).0 e)

exact_id : (name : List ℕ) (version : Option (List ℕ)) (x : Content) → is_same name version x ≡ true → id_of x ≡ id name version
exact_id name version x e = λ j. record {
  name = (bytes_eq-Decides (package_of x) name).0 (and_parts _ _ e).0 j;
  version = same_versions (version_of x) version (and_parts _ _ e).1 j;
}

-- ---- where the fronts of two names differ, they stand as the names do

first_decides : (o r then : Ordering) → ((o ≡ Equal → ⊥) → o ≡ r) → ordering_then o (ordering_then r then) ≡ ordering_then r then
first_decides Equal r then e = refl
first_decides Less r then e = ap (λ r. ordering_then r then) (e (λ k. cc))
first_decides Greater r then e = ap (λ r. ordering_then r then) (e (λ k. cc))

-- so do names and versions, of which names come first
front_first : (x q : Id) → ordering_then (nat_cmp (front_of x.name) (front_of q.name)) (id_cmp x q) ≡ id_cmp x q
front_first x q = first_decides (nat_cmp (front_of x.name) (front_of q.name)) (slice_cmp nat_cmp x.name q.name) (version_order x.version q.version) (fronts_tell x.name q.name (nat_cmp (front_of x.name) (front_of q.name)) refl)

-- ---- the first slot of a name and a version

pub place-ids : (name : List ℕ) (version : Option (List ℕ)) (slots : List (ℕ × Content)) → place (by_name_and_version name version) slots ≡ place_in id_cmp slot_id (id name version) slots
place-ids name version [] = refl
place-ids name version (r ∷ slots) = grind (arith, same_id, place-ids name version slots)

module _ (slots : List (ℕ × Content)) (next : ℕ) (order : List Placed) (kept : HasOrder slots next order) where
  module _ (q : Id) where
    -- an entry tells how its slot stands
    tells : (k : ℕ) (y : ℕ × Id) → slice_get (sorted_ids (ids_of slots)) k ≡ Some y → placed_at slots q (placed y) ≡ id_cmp y.1 q
    tells k y e = ap (ordering_then (nat_cmp (front_of y.1.name) (front_of q.name))) (order-sorted id_cmp id_total slot_id slots next kept.rises q k y e) ∙ front_first y.1 q

    abbrev pub comes_before : Placed → Bool
    comes_before one = is_lt (placed_at slots q one)

    pub parted_placed : IsPartitionedBy comes_before order
    parted_placed = parted id_cmp id_total slot_id placed slots next order kept q (placed_at slots q) tells

    pub lower_is : (r : ℕ) → r ≤ length order → IsPartitionPoint (λ s. comes_before s ≡ true) (λ s. comes_before s ≡ false) order r → r ≡ lower q (sorted_ids (ids_of slots))
    lower_is r w h = below_is id_cmp id_total slot_id placed slots next order kept q (placed_at slots q) tells (record { front = 0; serial = 0 }) r w h

  module _ (name : List ℕ) (version : Option (List ℕ)) (at : ℕ) (e : at ≡ lower (id name version) (sorted_ids (ids_of slots))) where
    pub found_here : (d : Placed) → at < length order
        → place (by_name_and_version name version) slots ≡ cond (is_eq (placed_at slots (id name version) (get_or order at d))) (place (has_serial (get_or order at d).serial) slots) None
    found_here d l =
        place-ids name version slots
        ∙ ranked_here id_cmp id_total slot_id placed slots next order kept (id name version) (placed_at slots (id name version)) (tells (id name version)) (λ p. p.serial) (λ y. refl) at d e l

    pub found_past : length order ≤ at → place (by_name_and_version name version) slots ≡ None
    found_past l =
        place-ids name version slots
        ∙ ranked_past id_cmp id_total slot_id placed slots next order kept (id name version) (placed_at slots (id name version)) (tells (id name version)) (λ p. p.serial) (λ y. refl) at e l

  -- ---- the order after a change

  pub kept_replace : (x : Content) (i : ℕ) → place (by_name_and_version (package_of x) (version_of x)) slots ≡ Some i → HasOrder (replace_at slots i x) next order
  kept_replace x i e =
      ranked_replace id_cmp id_total slot_id placed slots next order kept x i (place_within (by_name_and_version (package_of x) (version_of x)) slots i e)
      (λ d. exact_id (package_of x) (version_of x) (get_or slots i d).1 (place_passes (by_name_and_version (package_of x) (version_of x)) slots i d e))

  pub kept_push : (x : Content) → place (by_name_and_version (package_of x) (version_of x)) slots ≡ None → HasOrder (slots ++ (next, x) ∷ []) (next + 1) (insert order (lower (id_of x) (sorted_ids (ids_of slots))) (placed_slot (next, x)))
  kept_push x e = ranked_push id_cmp id_total slot_id placed slots next order kept x (sym (place-ids (package_of x) (version_of x) slots) ∙ e)

  pub kept_remove : (name : List ℕ) (version : Option (List ℕ)) (i : ℕ) → place (by_name_and_version name version) slots ≡ Some i → HasOrder (remove slots i) next (remove order (lower (id name version) (sorted_ids (ids_of slots))))
  kept_remove name version i e = ranked_remove id_cmp id_total slot_id placed slots next order kept (id name version) i (sym (place-ids name version slots) ∙ e)

-- ---- the key at a place

module _ {X Y : Type 0} (f : X → Y) where
  one_taken : (xs : List X) (i : ℕ) (x : X) → i < length xs → ((d : X) → get_or xs i d ≡ x) → map f (take 1 (drop i xs)) ≡ f x ∷ []
  one_taken [] i x l e = absurd (omega arith)
  one_taken (y ∷ xs) zero x l e = ap (λ t. f t ∷ []) (e y)
  one_taken (y ∷ xs) (suc i) x l e = one_taken xs i x (omega arith) e

pub key_read : (l : KeyedList) (i : ℕ) (slot : ℕ × Content) → i < length l.slots → ((d : ℕ × Content) → get_or l.slots i d ≡ slot) → key_at l (Some i) ≡ key_of l.serial slot.0 ∷ []
key_read l i slot within e = one_taken (λ (r : ℕ × Content). key_of l.serial r.0) l.slots i slot within e

-- ---- a new list

length-slots_from : (n : ℕ) (xs : List Content) → length (slots_from n xs) ≡ length xs
length-slots_from n [] = refl
length-slots_from n (x ∷ xs) = ap (λ k. suc k) (length-slots_from (suc n) xs)

-- each of them is in the order once
pub length-placed : (xs : List Content) → length (sorted_placed (slots_from 0 xs)) ≡ length xs
length-placed xs = grind (arith, length-map, length-sorted_in, length-slots_from)

-- so the order is as long as the slots
pub length-order : (slots : List (ℕ × Content)) (next : ℕ) (order : List Placed) → HasOrder slots next order → length order ≡ length slots
length-order slots next order h = grind (arith, length-map, length-sorted_in)

-- slots from 0 on, in the order that a sort gives
pub kept_sorted : (slots : List (ℕ × Content)) (next : ℕ) (order : List Placed) (xs : List Content) → slots ≡ slots_from 0 xs → next ≡ length xs → order ≡ sorted_placed slots → HasOrder slots next order
kept_sorted slots next order xs is n order_is = record {
  rises = subst (λ l. Rises 0 l next) (sym is) (subst (λ m. Rises 0 (slots_from 0 xs) m) (omega (arith, n)) (Rises-slots_from 0 xs));
  ordered = order_is;
}

-- ---- sorting the entries of new slots gives the order that is kept

module _ {X : Type 0} (R : X → X → Ordering) where
  abbrev IsUp : List X → Type 0
  IsUp [] = Unit {0}
  IsUp (x ∷ xs) = AllByRecursion (λ y. is_gt (R x y) ≡ false) xs × IsUp xs

-- ---- two lists in order that count alike are one

module _ {X : Type 0} (R : X → X → Ordering) (total : IsTotalOrder R) (exact : (a b : X) → R a b ≡ Equal → a ≡ b) where
  abbrev one_at : X → X → ℕ
  one_at x z = cond (is_eq (R z x)) 1 0

  one_here : (x : X) → one_at x x ≡ 1
  one_here x = ap (λ o. cond (is_eq o) 1 0) (tied_itself total x)

  -- what is counted stands there
  counted : (P : X → Type 0) (x : X) (zs : List X) → AllByRecursion P zs → 0 < sum_by (one_at x) zs → P x
  counted P x [] h l = absurd (omega arith)
  counted P x (z ∷ zs) h l = grind (arith, exact z x, sum_by-cons, counted P x zs h.1)

  not_above_itself : (a : X) → is_gt (R a a) ≡ false
  not_above_itself a = ap is_gt (tied_itself total a)

  one_list : (xs ys : List X) → ((f : X → ℕ) → sum_by f xs ≡ sum_by f ys) → IsUp R xs → IsUp R ys → xs ≡ ys
  one_list [] [] t u v = refl
  one_list [] (y ∷ ys) t u v = absurd (omega (arith, t (λ n. 1), sum_by-cons (λ n. 1) y ys))
  one_list (x ∷ xs) [] t u v = absurd (omega (arith, t (λ n. 1), sum_by-cons (λ n. 1) x xs))
  one_list (x ∷ xs) (y ∷ ys) t u v = λ j. same j ∷ one_list xs ys (λ f. omega (arith, t f, sum_by-cons f x xs, sum_by-cons f y ys, ap f same)) u.1 v.1 j
    where
      neither : is_gt (R x y) ≡ false → is_gt (R y x) ≡ false → R x y ≡ Equal
      neither p q = grind (arith, total.antisymm x y)

      same : x ≡ y
      same = exact x y (neither
          (counted (λ z. is_gt (R x z) ≡ false) y (x ∷ xs) (not_above_itself x, u.0) (omega (arith, t (one_at y), sum_by-cons (one_at y) y ys, one_here y)))
          (counted (λ z. is_gt (R y z) ≡ false) x (y ∷ ys) (not_above_itself y, v.0) (omega (arith, t (one_at x), sum_by-cons (one_at x) x xs, one_here x))))

  all_at : (P : X → Type 0) (xs : List X) → ((k : ℕ) (d : X) → k < length xs → P (get_or xs k d)) → AllByRecursion P xs
  all_at P [] h = tt
  all_at P (x ∷ xs) h = (h 0 x (omega arith), all_at P xs (λ k d l. h (suc k) d (omega arith)))

  up_from : (xs : List X) → ((i j : ℕ) (d : X) → i ≤ j → j < length xs → is_lt (R (get_or xs j d) (get_or xs i d)) ≡ false) → IsUp R xs
  up_from [] h = tt
  up_from (x ∷ xs) h = (
    all_at (λ y. is_gt (R x y) ≡ false) xs (λ k d l. sym (lt_back R total (get_or xs k d) x) ∙ h 0 (suc k) d (omega arith) (omega arith)),
    up_from xs (λ i j d le l. h (suc i) (suc j) d (omega arith) (omega arith)),
  )

  sorted_up : (xs : List X) → IsSortedBy (λ x y. is_lt (R x y)) xs → IsUp R xs
  sorted_up xs s = up_from xs (sorted_far (λ x y. is_lt (R x y)) (ranks_by total (λ (n : X). n)) xs s)

-- ---- the order of slots, in pairs of serials and what they are found by

abbrev pair_cmp : ℕ × Id → ℕ × Id → Ordering
pair_cmp x y = ordering_then (id_cmp x.1 y.1) (nat_cmp x.0 y.0)

pair_total : IsTotalOrder pair_cmp
pair_total = then_total (on_total (λ (x : ℕ × Id). x.1) id_total) (on_total (λ (x : ℕ × Id). x.0) nat_cmp_total)

before_later : (x y : ℕ × Id) → g id_cmp x.1 y.1 ≡ false → x.0 < y.0 → is_gt (pair_cmp x y) ≡ false
before_later x y e l = grind arith

above_first : (x y : ℕ × Id) → g id_cmp x.1 y.1 ≡ true → is_gt (pair_cmp y x) ≡ false
above_first x y e = grind (arith, id_total.antisymm y.1 x.1)

pairs_insert : (x : ℕ × Id) (ys : List (ℕ × Id)) → AllByRecursion (λ (y : ℕ × Id). x.0 < y.0) ys → IsUp pair_cmp ys → IsUp pair_cmp (insert_in id_cmp x ys)
pairs_insert x [] s o = (tt, tt)
pairs_insert x (y ∷ ys) s o = by (g id_cmp x.1 y.1) refl (pairs_insert x ys s.1 o.1)
  where
    by : (b : Bool) → g id_cmp x.1 y.1 ≡ b → IsUp pair_cmp (insert_in id_cmp x ys) → IsUp pair_cmp (cond b (y ∷ insert_in id_cmp x ys) (x ∷ y ∷ ys))
    by true e rest = (all_insert id_cmp id_total (λ z. is_gt (pair_cmp y z) ≡ false) x ys (above_first x y e) o.0, rest)
    by false e rest = ((before_later x y e s.0, all_map (λ z k. upto pair_total x y z (before_later x y e s.0) k) ys o.0), o)

pairs_sorted : (n : ℕ) (xs : List (ℕ × Id)) (m : ℕ) → Rises n xs m → IsUp pair_cmp (sorted_ids xs)
pairs_sorted n [] m h = tt
pairs_sorted n (x ∷ xs) m h = grind (arith, pairs_insert, all_sorted, id_total, all_map, all_from, pairs_sorted (suc x.0) xs m h.1)

-- ---- the same by the entries of slots

serial_total : (slots : List (ℕ × Content)) → IsTotalOrder (serial_cmp slots)
serial_total slots = then_total (on_total (λ (n : ℕ). id_under slots n) (options_total id_total)) (on_total (λ (n : ℕ). n) nat_cmp_total)

serial_exact : (slots : List (ℕ × Content)) (a b : ℕ) → serial_cmp slots a b ≡ Equal → a ≡ b
serial_exact slots a b e = grind arith

module _ (slots : List (ℕ × Content)) where
  pub placed_total : IsTotalOrder (placed_cmp slots)
  placed_total = then_total (on_total (λ (p : Placed). p.front) nat_cmp_total) (on_total (λ (p : Placed). p.serial) (serial_total slots))

  placed_exact : (a b : Placed) → placed_cmp slots a b ≡ Equal → a ≡ b
  placed_exact a b e =
      let front : a.front ≡ b.front = grind (arith, e) in
      let serial : a.serial ≡ b.serial = grind (arith, serial_exact, e) in
      λ j. record { front = front j; serial = serial j }

  -- a serial, with what its slot is found by
  abbrev IsUnder : ℕ × Id → Type 0
  IsUnder x = id_under slots x.0 ≡ Some x.1

  after_front : (o r n : Ordering) → ordering_then o r ≡ r → ordering_then o (ordering_then r n) ≡ ordering_then r n
  after_front o r n e = grind arith

  at_pairs : (x y : ℕ × Id) → IsUnder x → IsUnder y → placed_cmp slots (placed x) (placed y) ≡ pair_cmp x y
  at_pairs x y e f =
      (λ j. ordering_then (nat_cmp (front_of x.1.name) (front_of y.1.name)) (ordering_then (option_cmp id_cmp (e j) (f j)) (nat_cmp x.0 y.0)))
      ∙ after_front (nat_cmp (front_of x.1.name) (front_of y.1.name)) (id_cmp x.1 y.1) (nat_cmp x.0 y.0) (front_first x.1 y.1)

  all_up : (x : ℕ × Id) (ys : List (ℕ × Id)) → IsUnder x → AllByRecursion IsUnder ys → AllByRecursion (λ z. is_gt (pair_cmp x z) ≡ false) ys → AllByRecursion (λ p. is_gt (placed_cmp slots (placed x) p) ≡ false) (map placed ys)
  all_up x [] e h k = tt
  all_up x (y ∷ ys) e h k = (ap is_gt (at_pairs x y e h.0) ∙ k.0, all_up x ys e h.1 k.1)

  pairs_up : (ys : List (ℕ × Id)) → AllByRecursion IsUnder ys → IsUp pair_cmp ys → IsUp (placed_cmp slots) (map placed ys)
  pairs_up [] h k = tt
  pairs_up (y ∷ ys) h k = (all_up y ys h.0 h.1 k.0, pairs_up ys h.1 k.1)

  all_under : (next : ℕ) → Rises 0 slots next → AllByRecursion IsUnder (ids_of slots)
  all_under next rises =
      all_map (λ (y : ℕ × Id) e. sym (lookup-labels id_cmp id_total slot_id y.0 slots) ∙ e) (ids_of slots) (all_lookup 0 (ids_of slots) next (Rises-labels id_cmp id_total slot_id 0 slots next rises))

-- ---- a sort only moves what is there

sum_by-insert : (f : Placed → ℕ) (x : ℕ × Id) (ys : List (ℕ × Id)) → sum_by f (map placed (insert_in id_cmp x ys)) ≡ f (placed x) + sum_by f (map placed ys)
sum_by-insert f x [] = sum_by-cons f (placed x) []
sum_by-insert f x (y ∷ ys) = grind (arith, sum_by-cons f (placed x) (placed y ∷ map placed ys), sum_by-cons f (placed y) (map placed ys), sum_by-cons f (placed y) (map placed (insert_in id_cmp x ys)), sum_by-insert f x ys)

sum_by-sorted : (f : Placed → ℕ) (xs : List (ℕ × Id)) → sum_by f (map placed (sorted_ids xs)) ≡ sum_by f (map placed xs)
sum_by-sorted f [] = refl
sum_by-sorted f (x ∷ xs) = omega (arith, sum_by-insert f x (sorted_ids xs), sum_by-cons f (placed x) (map placed xs), sum_by-sorted f xs)

placed-ids : (slots : List (ℕ × Content)) → map placed (ids_of slots) ≡ map placed_slot slots
placed-ids [] = refl
placed-ids (slot ∷ slots) = ap (λ l. placed_slot slot ∷ l) (placed-ids slots)

from_zero : (n : ℕ) (slots : List (ℕ × Content)) (m : ℕ) → Rises n slots m → Rises 0 slots m
from_zero n [] m h = omega (arith, h)
from_zero n (slot ∷ slots) m h = (omega (arith, h.0), h.1)

-- what a sort makes of the entries of slots
pub sorted_is : (slots : List (ℕ × Content)) (first next : ℕ) → Rises first slots next → (old order : List Placed) → old ≡ map placed_slot slots → IsPermutation old order → IsSortedBy (λ x y. is_lt (placed_cmp slots x y)) order → order ≡ sorted_placed slots
sorted_is slots first next risen old order s moved sorted =
    let rises = from_zero first slots next risen in
    one_list (placed_cmp slots) (placed_total slots) (placed_exact slots) order (sorted_placed slots)
    (λ f. sum_by-IsPermutation f old order moved ∙ ap (sum_by f) (s ∙ sym (placed-ids slots)) ∙ sym (sum_by-sorted f (ids_of slots)))
    (sorted_up (placed_cmp slots) (placed_total slots) (placed_exact slots) order sorted)
    (pairs_up slots (sorted_ids (ids_of slots))
    (all_sorted id_cmp id_total (IsUnder slots) (ids_of slots) (all_under slots next rises))
    (pairs_sorted 0 (ids_of slots) next (Rises-labels id_cmp id_total slot_id 0 slots next rises)))

-- ---- entries that stand in order already

-- what a test of each and the next one says
pub in_order : (lt : Placed → Placed → Bool) (xs : List Placed) (r : Bool) → IsAllAdjacentAnswer (λ x y b. b ≡ not (lt y x)) xs r → OnTrue r (IsSortedBy lt xs)
in_order lt xs r h = grind arith
