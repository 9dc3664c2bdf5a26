-- Slots under rising serials, some of them holes, and those that are filled.
use Rattle.std.proofs.Common.{◌≡◌, inl, inr, ℕ, suc, ◌+◌, ◌<◌, ◌≤◌, Bool, true, false, nat_eq, List, [], ◌∷◌, ◌++◌, length, Option, None, Some, filter, refl, ap, arith}
use Rattle.std.proofs.lemmas.Bool.{cases_Bool}
use Rattle.std.proofs.lemmas.Bool.Decides.{nat_tests}
use Rattle.std.specs.Borrow.{MutBor}
use Rattle.std.specs.Option.{option_copied_mut, OnSome}
use Rattle.std.specs.List.{IsDistinct, AllByRecursion}
use Rattle.std.specs.Map.{lookup, keys_of, set_value, remove_entry}
use Rattle.indexmap.specs.IndexMap.{insert_entry}
use Rattle.ctl_ordered.specs.declared.slot.Slot.{Slot}
use Rattle.ctl_ordered.specs.declared.slot.Slot.TheVariants.{Entry, Hole}
use Rattle.ctl_ordered.specs.Slots.{entries_of, filled_of, entry_of, is_entry, Rises}
use Rattle.ctl_ordered.specs.Ordered.{without_serials, serials_of, set_filled, cut_filled, filled_serial}

-- ---- serials that rise

module _ {X : Type 0} where
  pub rises_less : (n k : ℕ) (rs : List (ℕ × X)) (m : ℕ) → k ≤ n → Rises n rs m → Rises k rs m
  rises_less n k [] m le h = omega arith
  rises_less n k (r ∷ rs) m le h = (omega (arith, h.0), h.1)

  pub rises_end : (n : ℕ) (rs : List (ℕ × X)) (m : ℕ) → Rises n rs m → n ≤ m
  rises_end n [] m h = h
  rises_end n (r ∷ rs) m h = omega (arith, h.0, rises_end (suc r.0) rs m h.1)

  pub rises_set : (test : ℕ → Bool) (w : X) (n : ℕ) (rs : List (ℕ × X)) (m : ℕ) → Rises n rs m → Rises n (set_value test rs w) m
  rises_set test w n [] m h = h
  rises_set test w n (r ∷ rs) m h = grind (arith, rises_set test w (suc r.0) rs m h.1)

  pub rises_last : (x : X) (n : ℕ) (rs : List (ℕ × X)) (m : ℕ) → Rises n rs m → Rises n (rs ++ (m, x) ∷ []) (m + 1)
  rises_last x n [] m h = (h, omega arith)
  rises_last x n (r ∷ rs) m h = (h.0, rises_last x (suc r.0) rs m h.1)

  -- a serial past the others goes last
  pub insert_last : (x : X) (n : ℕ) (rs : List (ℕ × X)) (m : ℕ) → Rises n rs m → insert_entry nat_eq rs m x ≡ rs ++ (m, x) ∷ []
  insert_last x n [] m h = refl
  insert_last x n (r ∷ rs) m h = grind (arith, nat_tests, rises_end (suc r.0) rs m h.1, insert_last x (suc r.0) rs m h.1)

  -- a serial below the others has nothing, and nothing of it is cut
  none_below : (s n : ℕ) (rs : List (ℕ × X)) (m : ℕ) → Rises n rs m → s < n → (lookup (nat_eq s) rs ≡ None) × (remove_entry (nat_eq s) rs ≡ rs)
  none_below s n [] m h l = (refl, refl)
  none_below s n (r ∷ rs) m h l = let rest = none_below s (suc r.0) rs m h.1 (omega (arith, l, h.0)) in (grind (arith, nat_tests, rest.0), grind (arith, nat_tests, rest.1))

-- where no key passes, nothing is written
pub set_none : {K X : Type 0} (test : K → Bool) (es : List (K × X)) (x : X) → lookup test es ≡ None → set_value test es x ≡ es
set_none test [] x h = refl
set_none test (e ∷ es) x h = grind (arith, set_none test es x)

-- what holds at a loan that is there
pub from_lent : {V : Type 0} {P : Type 0} (m : Option (MutBor V)) (v : V) → option_copied_mut m ≡ Some v → OnSome m P → P
from_lent None v e p = cc
from_lent (Some m) v e p = p

pub to_lent : {V : Type 0} {P : Type 0} (m : Option (MutBor V)) → P → OnSome m P
to_lent None p = tt
to_lent (Some m) p = p

-- ---- the filled slots

module _ {K V : Type 0} where
  pub rises_filled : (n : ℕ) (rs : List (ℕ × Slot K V)) (m : ℕ) → Rises n rs m → Rises n (filled_of rs) m
  rises_filled n [] m h = h
  rises_filled n (r ∷ rs) m h = grind (arith, rises_less (suc r.0) n (filled_of rs) m, rises_filled (suc r.0) rs m h.1)

  -- what stands in a slot, if it is there
  abbrev pub entry_in : Option (Slot K V) → Option (K × V)
  entry_in None = None
  entry_in (Some slot) = entry_of slot

  -- what stands in the slot of a serial stands in the filled one
  pub filled_at : (s n : ℕ) (rs : List (ℕ × Slot K V)) (m : ℕ) → Rises n rs m → entry_in (lookup (nat_eq s) rs) ≡ lookup (nat_eq s) (filled_of rs)
  filled_at s n [] m h = refl
  filled_at s n (r ∷ rs) m h = grind (arith, nat_tests, filled_at s (suc r.0) rs m h.1, none_below s (suc r.0) (filled_of rs) m (rises_filled (suc r.0) rs m h.1))

  -- another value in a slot is another in the filled one
  pub filled_set : (s : ℕ) (e : K × V) (w : V) (rs : List (ℕ × Slot K V)) → lookup (nat_eq s) rs ≡ Some (Entry e.0 e.1) → filled_of (set_value (nat_eq s) rs (Entry e.0 w)) ≡ set_value (nat_eq s) (filled_of rs) (e.0, w)
  filled_set s e w [] at = refl
  filled_set s e w (r ∷ rs) at = grind (arith, filled_set s e w rs)

  -- a slot that is a hole from now on goes from the filled ones
  pub filled_cut : (s n : ℕ) (rs : List (ℕ × Slot K V)) (m : ℕ) → Rises n rs m → filled_of (set_value (nat_eq s) rs Hole) ≡ remove_entry (nat_eq s) (filled_of rs)
  filled_cut s n [] m h = refl
  filled_cut s n (r ∷ rs) m h = grind (arith, nat_tests, filled_cut s (suc r.0) rs m h.1, none_below s (suc r.0) (filled_of rs) m (rises_filled (suc r.0) rs m h.1))

  pub filled_last : (rs : List (ℕ × Slot K V)) (s : ℕ) (e : K × V) → filled_of (rs ++ (s, Entry e.0 e.1) ∷ []) ≡ filled_of rs ++ (s, e) ∷ []
  filled_last [] s e = refl
  filled_last (r ∷ rs) s e = grind (arith, filled_last rs s e)

  pub filled_squeezed : (rs : List (ℕ × Slot K V)) → filled_of (filter (λ (r : ℕ × Slot K V). is_entry r.1) rs) ≡ filled_of rs
  filled_squeezed [] = refl
  filled_squeezed (r ∷ rs) = grind (arith, filled_squeezed rs)

  pub rises_squeezed : (n : ℕ) (rs : List (ℕ × Slot K V)) (m : ℕ) → Rises n rs m → Rises n (filter (λ (r : ℕ × Slot K V). is_entry r.1) rs) m
  rises_squeezed n [] m h = h
  rises_squeezed n (r ∷ rs) m h = grind (arith, rises_less (suc r.0) n (filter (λ (r : ℕ × Slot K V). is_entry r.1) rs) m, rises_squeezed (suc r.0) rs m h.1)

  -- there are no more entries than slots
  pub few_entries : (rs : List (ℕ × Slot K V)) → length (entries_of rs) ≤ length rs
  few_entries [] = omega arith
  few_entries (r ∷ rs) = grind (arith, few_entries rs)

-- ---- the filled slot of a key

module _ {K V : Type 0} (test : K → Bool) where
  pub serial_least : (n : ℕ) (filled : List (ℕ × (K × V))) (m s : ℕ) → Rises n filled m → filled_serial test filled ≡ Some s → n ≤ s
  serial_least n [] m s h i = cc
  serial_least n (r ∷ filled) m s h i = grind (arith, serial_least (suc r.0) filled m s h.1)

  -- the entry of the first key that passes, which stands under this serial
  pub record IsEntryOf (filled : List (ℕ × (K × V))) (s : ℕ) (e : K × V) : Type 0 where
    pub passes : test e.0 ≡ true
    pub slot : lookup (nat_eq s) filled ≡ Some e
    pub value : lookup test (without_serials filled) ≡ Some e.1
    pub set : (w : V) → set_value (nat_eq s) filled (e.0, w) ≡ set_filled test filled w
    pub cut : remove_entry (nat_eq s) filled ≡ cut_filled test filled

  pub filled_found : (n : ℕ) (filled : List (ℕ × (K × V))) (m s : ℕ) → Rises n filled m → filled_serial test filled ≡ Some s → (e : K × V) × IsEntryOf filled s e
  filled_found n [] m s h i = cc
  filled_found n (r ∷ filled) m s h i = elim (cases_Bool (test r.1.0)) [
    | inl c ↦
        let here : nat_eq s r.0 ≡ true = grind (arith, nat_tests, i, c) in
        (r.1, record { passes = c; slot = grind (arith, here); value = grind (arith, c); set = λ w. grind (arith, here, c); cut = grind (arith, here, c) })
    | inr c ↦
        let later : filled_serial test filled ≡ Some s = grind (arith, i, c) in
        let apart : nat_eq s r.0 ≡ false = grind (arith, nat_tests, serial_least (suc r.0) filled m s h.1 later) in
        let rest = filled_found (suc r.0) filled m s h.1 later in
        let is = rest.1 in
        (rest.0, record { passes = is.passes; slot = grind (arith, apart, is.slot); value = grind (arith, c, is.value); set = λ w. grind (arith, apart, c, is.set w); cut = grind (arith, apart, c, is.cut) })
  ]

  -- a key without a filled slot has no value, and nothing of it is cut
  pub no_value : (filled : List (ℕ × (K × V))) → filled_serial test filled ≡ None → lookup test (without_serials filled) ≡ None
  no_value [] i = refl
  no_value (r ∷ filled) i = grind (arith, no_value filled)

  pub no_cut : (filled : List (ℕ × (K × V))) → filled_serial test filled ≡ None → cut_filled test filled ≡ filled
  no_cut [] i = refl
  no_cut (r ∷ filled) i = grind (arith, no_cut filled)

  pub no_serial : (filled : List (ℕ × (K × V))) → lookup test (without_serials filled) ≡ None → filled_serial test filled ≡ None
  no_serial [] i = refl
  no_serial (r ∷ filled) i = grind (arith, no_serial filled)

  -- the entries and the serials of filled slots of which one has another value, or goes
  pub views_set : (filled : List (ℕ × (K × V))) (w : V) → (without_serials (set_filled test filled w) ≡ set_value test (without_serials filled) w) × (serials_of (set_filled test filled w) ≡ serials_of filled)
  views_set [] w = (refl, refl)
  views_set (r ∷ filled) w = let rest = views_set filled w in (grind (arith, rest.0), grind (arith, rest.1))

  pub views_cut : (filled : List (ℕ × (K × V))) → (without_serials (cut_filled test filled) ≡ remove_entry test (without_serials filled)) × (serials_of (cut_filled test filled) ≡ remove_entry test (serials_of filled))
  views_cut [] = (refl, refl)
  views_cut (r ∷ filled) = let rest = views_cut filled in (grind (arith, rest.0), grind (arith, rest.1))

-- ---- entries

module _ {K V : Type 0} where
  pub keys_in_filled : (filled : List (ℕ × (K × V))) → keys_of (serials_of filled) ≡ keys_of (without_serials filled)
  keys_in_filled [] = refl
  keys_in_filled (r ∷ filled) = ap (λ l. r.1.0 ∷ l) (keys_in_filled filled)

  pub all_cut : {Y : Type 0} (f : K → Y) (y : Y) (test : K → Bool) (es : List (K × V)) → AllByRecursion (λ k. f k ≡ y) (keys_of es) → AllByRecursion (λ k. f k ≡ y) (keys_of (remove_entry test es))
  all_cut f y test [] h = tt
  all_cut f y test (e ∷ es) h = grind (arith, all_cut f y test es h.1)

  module _ (eq : K → K → Bool) where
    pub insert_old : (es : List (K × V)) (k : K) (v w : V) → lookup (eq k) es ≡ Some w → insert_entry eq es k v ≡ set_value (eq k) es v
    insert_old [] k v w h = cc
    insert_old (e ∷ es) k v w h = grind (arith, insert_old es k v w)

    pub apart_cut : (k : K) (es : List (K × V)) → IsDistinct eq (keys_of es) → IsDistinct eq (keys_of (remove_entry (eq k) es))
    unfolding IsDistinct
    apart_cut k [] d = d
    apart_cut k (e ∷ es) d = grind (arith, all_cut (eq e.0) false (eq k) es d.0, apart_cut k es d.1)
