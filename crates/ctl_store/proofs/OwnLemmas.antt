-- The settings of one package, after one setting is set or taken out.
use Rattle.std.proofs.Common.{◌≡◌, ℕ, ℤ, Bool, true, false, cond, List, [], ◌∷◌, refl, ap, sym, ◌∙◌, arith, nat_eq, suc, ◌+◌, ◌<◌, ◌≤◌, ◌++◌, length, map, Option, Some, None, subst, zero, filter, take, drop}
use Rattle.std.specs.Map.{remove_entry, lookup}
use Rattle.indexmap.specs.IndexMap.{insert_entry}
use Rattle.ctl_store.specs.declared.selector.Selector.{Selector}
use Rattle.ctl_store.specs.Pins.{selector_eq, is_of, own_settings, package_eq, package_for, settings_of}
use Rattle.ctl_store.specs.declared.selector.PinSetting.{PinSetting}
use Rattle.ctl_store.specs.SelectorLaws.{selector_eq-Decides, package_cmp, package_total, package_eq-Decides, packages_tie}
use Rattle.std.specs.Ordering.{nat_cmp, is_eq, ordering_then, is_gt, is_lt}
use Rattle.std.specs.Cmp.{IsTotalOrder, nat_cmp_total, on_total, then_total, tied_itself}
use Rattle.ctl_store.proofs.PlaceLemmas.{some_is, all_map, all_back, turned}
use Rattle.std.specs.List.{insert, remove, slice_get, AllByRecursion}
use Rattle.std.specs.List.Sorted.{IsPartitionedBy, IsPartitionPoint}
use Rattle.ctl_ordered.specs.Ordered.{without_serials, set_filled, cut_filled, filled_serial}
use Rattle.ctl_store.specs.Slots.{Rises}
use Rattle.ctl_store.specs.Inside.Sorted.{place_in, insert_in, labelled, sorted_in, below_in}
use Rattle.ctl_store.specs.Inside.HeldPins.{own_cmp, own_order, own_slot, own_below, own_one, own_run, IsRanked}
use Rattle.ctl_store.proofs.RankedLemmas.{below_there, below_is, parted, order-sorted, ranked_push, ranked_remove, g, up, lt_back, all_sorted, in_order, IsInOrder, all_lookup}
use Rattle.std.specs.Option.{option_map_or}
use Rattle.std.specs.declared.cmp.Ordering.{Ordering}
use Rattle.std.proofs.lemmas.List.{drop-map, take-append-drop}
use Rattle.ctl_ordered.proofs.SlotLemmas.{serial_least, no_cut, rises_end}

same_of : (q : List ℕ) (s t : Selector) → selector_eq s t ≡ true → is_of q s ≡ is_of q t
same_of q s t e = ap (is_of q) ((selector_eq-Decides s t).0 e)

-- a setting of the package is set among its own, where it stands among all
pub own_insert : (q : List ℕ) (s : Selector) (p : ℤ) (settings : List (Selector × ℤ)) → own_settings q (insert_entry selector_eq settings s p) ≡ cond (is_of q s) (insert_entry selector_eq (own_settings q settings) s p) (own_settings q settings)
own_insert q s p [] = refl
own_insert q s p (x ∷ settings) = grind (arith, same_of, own_insert q s p settings)

pub own_remove : (q : List ℕ) (s : Selector) (settings : List (Selector × ℤ)) → own_settings q (remove_entry (selector_eq s) settings) ≡ cond (is_of q s) (remove_entry (selector_eq s) (own_settings q settings)) (own_settings q settings)
own_remove q s [] = grind arith
own_remove q s (x ∷ settings) = grind (arith, same_of, own_remove q s settings)

-- ---- where settings stand

pub lookup_turned : {X : Type 0} (s : ℕ) (slots : List (ℕ × X)) → lookup (nat_eq s) slots ≡ lookup (λ k. nat_eq k s) slots
lookup_turned s slots = λ j. lookup (λ k. turned s k j) slots

abbrev Slot : Type 0
Slot = ℕ × (Selector × ℤ)

abbrev Standing : Type 0
Standing = Option (List ℕ) × ℕ

pub own_total : IsTotalOrder own_cmp
own_total = then_total (on_total (λ (a : Standing). a.0) package_total) (on_total (λ (a : Standing). a.1) nat_cmp_total)

-- those of two serials don't tie
other_serial : (a b : Standing) → a.1 < b.1 → is_eq (own_cmp a b) ≡ false
other_serial a b l = grind arith

-- a serial that was not given is of no slot
fresh : (q : Option (List ℕ)) (n : ℕ) (slots : List Slot) (m : ℕ) → Rises n slots m → place_in own_cmp own_slot (q, m) slots ≡ None
fresh q n [] m h = refl
fresh q n (r ∷ slots) m h = grind (arith, other_serial, rises_end, fresh q (suc r.0) slots m h.1)

-- the place of the slot of a selector
abbrev at : Selector → List Slot → ℕ
at s [] = 0
at s (r ∷ slots) = cond (selector_eq s r.1.0) 0 (suc (at s slots))

ties_there : (s t : Selector) (n m : ℕ) → selector_eq s t ≡ true → n ≡ m → is_eq (own_cmp (package_for t, n) (package_for s, m)) ≡ true
ties_there s t n m e k = (λ j. is_eq (own_cmp (package_for (sym ((selector_eq-Decides s t).0 e) j), k j) (package_for s, m))) ∙ ap is_eq (tied_itself own_total (package_for s, m))

-- it is the first where it stands, and it is the one that is cut
at_first : (s : Selector) (serial n : ℕ) (slots : List Slot) (m : ℕ) → Rises n slots m → filled_serial (selector_eq s) slots ≡ Some serial → place_in own_cmp own_slot (package_for s, serial) slots ≡ Some (at s slots)
at_first s serial n [] m h e = cc
at_first s serial n (r ∷ slots) m h e = grind (arith, ties_there s r.1.0, other_serial (own_slot r) (package_for s, serial), some_is, serial_least (selector_eq s) (suc r.0) slots m serial h.1, at_first s serial (suc r.0) slots m h.1)

at_cut : (s : Selector) (serial : ℕ) (slots : List Slot) → filled_serial (selector_eq s) slots ≡ Some serial → cut_filled (selector_eq s) slots ≡ remove slots (at s slots)
at_cut s serial [] e = cc
at_cut s serial (r ∷ slots) e = grind (arith, at_cut s serial slots)

-- another priority changes neither where settings stand nor the serials
set_labels : (test : Selector → Bool) (w : ℤ) (slots : List Slot) → labelled own_slot (set_filled test slots w) ≡ labelled own_slot slots
set_labels test w [] = refl
set_labels test w (r ∷ slots) = grind (arith, set_labels test w slots)

set_rises : (test : Selector → Bool) (w : ℤ) (n : ℕ) (slots : List Slot) (m : ℕ) → Rises n slots m → Rises n (set_filled test slots w) m
set_rises test w n [] m h = h
set_rises test w n (r ∷ slots) m h = grind (arith, set_rises test w (suc r.0) slots m h.1)

-- ---- the order after a change

module _ (slots : List Slot) (next : ℕ) (order : List ℕ) (kept : IsRanked slots next order) where
  -- a setting of a selector that is there stays where it is
  pub own_set : (test : Selector → Bool) (w : ℤ) → IsRanked (set_filled test slots w) next order
  own_set test w = record {
    rises = set_rises test w 0 slots next kept.rises;
    ordered = kept.ordered ∙ ap (λ xs. map (λ (y : ℕ × Standing). y.0) (sorted_in own_cmp xs)) (sym (set_labels test w slots));
  }

  -- another goes to the end of those of its package
  pub own_push : (x : Selector × ℤ) (at : ℕ) → at ≡ own_below (package_for x.0, next) slots → IsRanked (slots ++ (next, x) ∷ []) (next + 1) (insert order at next)
  own_push x at e = subst (λ k. IsRanked (slots ++ (next, x) ∷ []) (next + 1) (insert order k next)) (sym e) (ranked_push own_cmp own_total own_slot (λ (x : ℕ × Standing). x.0) slots next order kept x (fresh (package_for x.0) 0 slots next kept.rises))

  -- where halving leads
  pub own_lower : (q : Standing) (r : ℕ) → r ≤ length order → (IsPartitionedBy (λ s. is_lt (own_order slots q s)) order → IsPartitionPoint (λ s. is_lt (own_order slots q s) ≡ true) (λ s. is_lt (own_order slots q s) ≡ false) order r) → r ≡ own_below q slots
  own_lower q r w h =
      below_is own_cmp own_total own_slot (λ (x : ℕ × Standing). x.0) slots next order kept q (own_order slots q) (order-sorted own_cmp own_total own_slot slots next kept.rises q) 0 r w
      (h (parted own_cmp own_total own_slot (λ (x : ℕ × Standing). x.0) slots next order kept q (own_order slots q) (order-sorted own_cmp own_total own_slot slots next kept.rises q)))

  module _ (s : Selector) where
    pub own_none : filled_serial (selector_eq s) slots ≡ None → IsRanked (cut_filled (selector_eq s) slots) next order
    own_none e = subst (λ l. IsRanked l next order) (sym (no_cut (selector_eq s) slots e)) kept

    module _ (serial : ℕ) (there : filled_serial (selector_eq s) slots ≡ Some serial) where
      -- a setting that is there is in the order
      pub own_within : own_below (package_for s, serial) slots < length order
      own_within = below_there own_cmp own_total own_slot (λ (x : ℕ × Standing). x.0) slots next order kept (package_for s, serial) (own_order slots (package_for s, serial)) (order-sorted own_cmp own_total own_slot slots next kept.rises (package_for s, serial)) (λ n. n) (λ y. refl) (at s slots) (at_first s serial 0 slots next kept.rises there)

      pub own_cut : (k : ℕ) → k ≡ own_below (package_for s, serial) slots → IsRanked (cut_filled (selector_eq s) slots) next (remove order k)
      own_cut k e =
          subst (λ l. IsRanked l next (remove order k)) (sym (at_cut s serial slots there))
          (subst (λ k. IsRanked (remove slots (at s slots)) next (remove order k)) (sym e) (ranked_remove own_cmp own_total own_slot (λ (x : ℕ × Standing). x.0) slots next order kept (package_for s, serial) (at s slots) (at_first s serial 0 slots next kept.rises there)))

-- ---- the settings of one package stand together in the order of packages, in the order in which they were set

module _ (q : List ℕ) where
  abbrev start : Standing
  start = (Some q, 0)

  abbrev is_own : ℕ × Standing → Bool
  is_own x = package_eq x.1.0 (Some q)

  own_is : (s : Selector) → package_eq (package_for s) (Some q) ≡ is_of q s
  own_is s = grind arith

  unequal : (o : Ordering) (n : ℕ) → is_lt (ordering_then o (nat_cmp n 0)) ≡ true → is_eq o ≡ false
  unequal o n e = grind arith

  -- what stands before the start is not the package's
  before_start : (x : ℕ × Standing) → is_lt (own_cmp x.1 start) ≡ true → is_own x ≡ false
  before_start x e = sym (packages_tie x.1.0 (Some q)) ∙ unequal (package_cmp x.1.0 (Some q)) x.1.1 e

  ties : (o p t : Ordering) → is_gt (ordering_then o p) ≡ false → is_lt (ordering_then o t) ≡ false → is_eq o ≡ true
  ties o p t a b = grind arith

  -- between the start and one of the package there are none but its own
  between : (x y : ℕ × Standing) → is_own y ≡ true → g own_cmp x.1 y.1 ≡ false → is_lt (own_cmp x.1 start) ≡ false → is_own x ≡ true
  between x y is not_above not_below =
      sym (packages_tie x.1.0 (Some q))
      ∙ ties (package_cmp x.1.0 (Some q)) (nat_cmp x.1.1 y.1.1) (nat_cmp x.1.1 0) ((λ j. is_gt (ordering_then (package_cmp x.1.0 (sym ((package_eq-Decides y.1.0 (Some q)).0 is) j)) (nat_cmp x.1.1 y.1.1))) ∙ not_above) not_below

  -- ---- those in front that are of the package

  abbrev front : List (ℕ × Standing) → List (ℕ × Standing)
  front [] = []
  front (x ∷ xs) = cond (is_own x) (x ∷ front xs) []

  none_own : (y : ℕ × Standing) (ys : List (ℕ × Standing)) → is_own y ≡ false → is_lt (own_cmp y.1 start) ≡ false → AllByRecursion (λ z. g own_cmp y.1 z.1 ≡ false) ys → filter is_own ys ≡ []
  none_own y [] e w h = refl
  none_own y (z ∷ ys) e w h = grind (arith, between, none_own y ys e w h.1)

  front_is : (ys : List (ℕ × Standing)) → IsInOrder own_cmp ys → AllByRecursion (λ z. is_lt (own_cmp z.1 start) ≡ false) ys → front ys ≡ filter is_own ys
  front_is [] h w = refl
  front_is (y ∷ ys) h w = grind (arith, none_own y ys, front_is ys h.1 w.1)

  from_start : (y : ℕ × Standing) (ys : List (ℕ × Standing)) → is_lt (own_cmp y.1 start) ≡ false → AllByRecursion (λ z. g own_cmp y.1 z.1 ≡ false) ys → AllByRecursion (λ z. is_lt (own_cmp z.1 start) ≡ false) ys
  from_start y ys e h = all_map (λ z k. lt_back own_cmp own_total z.1 start ∙ up own_cmp own_total start y.1 z.1 (sym (lt_back own_cmp own_total y.1 start) ∙ e) k) ys h

  front_from : (ys : List (ℕ × Standing)) → IsInOrder own_cmp ys → front (drop (below_in own_cmp start ys) ys) ≡ filter is_own ys
  front_from [] h = refl
  front_from (y ∷ ys) h = grind (arith, before_start y, from_start y ys, front_is (y ∷ ys) h, front_from ys h.1)

  -- ---- their order is that of the slots

  abbrev IsNotAfter : ℕ × Standing → ℕ × Standing → Type 0
  IsNotAfter x y = is_own x ≡ true → is_own y ≡ true → g own_cmp x.1 y.1 ≡ false

  before_later : (x y : ℕ × Standing) → x.1.1 < y.1.1 → IsNotAfter x y
  before_later x y l = λ d e. grind (arith, package_eq-Decides, tied_itself package_total)

  all_later : (r : Slot) (n : ℕ) (slots : List Slot) (m : ℕ) → r.0 < n → Rises n slots m → AllByRecursion (IsNotAfter (r.0, own_slot r)) (labelled own_slot slots)
  all_later r n [] m l h = tt
  all_later r n (s ∷ slots) m l h = (before_later (r.0, own_slot r) (s.0, own_slot s) (omega (arith, l, h.0)), all_later r (suc s.0) slots m (omega (arith, l, h.0)) h.1)

  filter-insert : (x : ℕ × Standing) (ys : List (ℕ × Standing)) → AllByRecursion (IsNotAfter x) ys → filter is_own (insert_in own_cmp x ys) ≡ filter is_own (x ∷ ys)
  filter-insert x [] h = refl
  filter-insert x (y ∷ ys) h = grind (arith, filter-insert x ys h.1)

  filter-sorted : (n : ℕ) (slots : List Slot) (m : ℕ) → Rises n slots m → filter is_own (sorted_in own_cmp (labelled own_slot slots)) ≡ filter is_own (labelled own_slot slots)
  filter-sorted n [] m h = refl
  filter-sorted n (r ∷ slots) m h =
      filter-insert (r.0, own_slot r) (sorted_in own_cmp (labelled own_slot slots)) (all_sorted own_cmp own_total (IsNotAfter (r.0, own_slot r)) (labelled own_slot slots) (all_later r (suc r.0) slots m (omega arith) h.1))
      ∙ ap (λ l. cond (is_own (r.0, own_slot r)) ((r.0, own_slot r) ∷ l) l) (filter-sorted (suc r.0) slots m h.1)

  -- ---- the settings of their serials

  -- that of a serial is there
  abbrev HasSetting : List Slot → ℕ × Standing → Type 0
  HasSetting slots y = (x : Selector × ℤ) × (lookup (nat_eq y.0) slots ≡ Some x) × (is_of q x.0 ≡ is_own y)

  all_have : (all slots : List Slot) → AllByRecursion (λ r. lookup (λ k. nat_eq k r.0) all ≡ Some r.1) slots → AllByRecursion (HasSetting all) (labelled own_slot slots)
  all_have all [] h = tt
  all_have all (r ∷ slots) h = ((r.1, lookup_turned r.0 all ∙ h.0, sym (own_is r.1.0)), all_have all slots h.1)

  abbrev picked : List Slot → List (ℕ × Standing) → List (Selector × ℤ)
  picked slots [] = []
  picked slots (y ∷ ys) = option_map_or (λ (x : Selector × ℤ). x ∷ picked slots ys) (lookup (nat_eq y.0) slots) (picked slots ys)

  run_picks : (slots : List Slot) (ys : List (ℕ × Standing)) → AllByRecursion (HasSetting slots) ys → own_run q slots (map (λ (y : ℕ × Standing). y.0) ys) ≡ picked slots (front ys)
  run_picks slots [] h = refl
  run_picks slots (y ∷ ys) h = grind (arith, run_picks slots ys h.1)

  picks : (all slots : List Slot) → AllByRecursion (λ r. lookup (λ k. nat_eq k r.0) all ≡ Some r.1) slots → picked all (filter is_own (labelled own_slot slots)) ≡ own_settings q (without_serials slots)
  picks all [] h = refl
  picks all (r ∷ slots) h = grind (arith, lookup_turned, own_is, picks all slots h.1)

  -- from where they begin, the order leads through the settings of the package
  pub own_found : (slots : List Slot) (next : ℕ) (order : List ℕ) (at : ℕ) → IsRanked slots next order → at ≡ own_below start slots → own_run q slots (drop at order) ≡ own_settings q (without_serials slots)
  own_found slots next order at kept is =
      (λ j. own_run q slots (drop (is j) (kept.ordered j)))
      ∙ ap (λ l. own_run q slots l) (drop-map (λ (y : ℕ × Standing). y.0) (below_in own_cmp start ids) ids)
      ∙ run_picks slots (drop (below_in own_cmp start ids) ids) (all_back (HasSetting slots) (take (below_in own_cmp start ids) ids) (drop (below_in own_cmp start ids) ids)
      (subst (AllByRecursion (HasSetting slots)) (sym (take-append-drop (below_in own_cmp start ids) ids)) (all_sorted own_cmp own_total (HasSetting slots) (labelled own_slot slots) (all_have slots slots there))))
      ∙ ap (λ l. picked slots l) (front_from ids (in_order own_cmp own_total (labelled own_slot slots)) ∙ filter-sorted 0 slots next kept.rises)
      ∙ picks slots slots there
    where
      ids : List (ℕ × Standing)
      ids = sorted_in own_cmp (labelled own_slot slots)

      there : AllByRecursion (λ (r : Slot). lookup (λ k. nat_eq k r.0) slots ≡ Some r.1) slots
      there = all_lookup 0 slots next kept.rises

-- the settings from a place of the order on, by that of the serial there
pub run_next : (q : List ℕ) (slots : List Slot) (order : List ℕ) (i next serial : ℕ) → slice_get order i ≡ Some serial → next ≡ i + 1
    → own_run q slots (drop i order) ≡ option_map_or (λ (setting : Selector × ℤ). setting ∷ own_run q slots (drop next order)) (own_one q (lookup (nat_eq serial) slots)) []
run_next q slots [] i next serial e k = cc
run_next q slots (s ∷ order) zero next serial e k = grind (arith, some_is)
run_next q slots (s ∷ order) (suc i) zero serial e k = absurd (omega (arith, k))
run_next q slots (s ∷ order) (suc i) (suc next) serial e k = run_next q slots order i next serial e (omega (arith, k))

pub run_ends : (q : List ℕ) (slots : List Slot) (order : List ℕ) (i : ℕ) → slice_get order i ≡ None → own_run q slots (drop i order) ≡ []
run_ends q slots [] zero e = refl
run_ends q slots [] (suc i) e = refl
run_ends q slots (s ∷ order) zero e = cc
run_ends q slots (s ∷ order) (suc i) e = run_ends q slots order i e

-- ---- settings that are given back

-- the first of those that are left has gone behind those that were taken
pub setting_moved : (taken : List PinSetting) (x : PinSetting) (left : List (Selector × ℤ)) → settings_of (taken ++ x ∷ []) ++ left ≡ settings_of taken ++ (x.selector, x.priority) ∷ left
setting_moved [] x left = refl
setting_moved (y ∷ taken) x left = ap (λ l. (y.selector, y.priority) ∷ l) (setting_moved taken x left)
