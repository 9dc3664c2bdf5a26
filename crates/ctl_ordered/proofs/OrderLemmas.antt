-- Orders of serials, by which keys are found.
use Rattle.std.proofs.Common.{◌≡◌, inl, inr, ℕ, zero, suc, ◌+◌, ◌<◌, ◌≤◌, Bool, true, false, cond, nat_eq, List, [], ◌∷◌, ◌++◌, map, length, get_or, filter, Option, None, Some, is_some, refl, ap, sym, subst, ◌∙◌, arith}
use Rattle.std.proofs.Math.Nat.{eq-or-lt_of_le}
use Rattle.std.proofs.lemmas.Bool.{cases_Bool, cases_lt}
use Rattle.std.proofs.lemmas.Map.{keys-set_value, lookup-insert, lookup-remove_entry, none_passes_from_lookup}
use Rattle.std.proofs.lemmas.Map.Keys.{IsDistinct-push, IsDistinct-from_apart, Less-from_sorted}
use Rattle.std.proofs.lemmas.Map.Made.{is_some-lookup}
use Rattle.std.proofs.lemmas.List.{get_or-map, length-map, map-append}
use Rattle.std.proofs.lemmas.List.Edits.{insert_end}
use Rattle.std.proofs.lemmas.List.Elements.{All-from_get_or, recursion_from_All}
use Rattle.std.proofs.lemmas.List.Recursion.{found_nowhere}
use Rattle.std.proofs.lemmas.Option.{none-some}
use Rattle.indexmap.proofs.SetLemmas.{map-insert, map-remove}
use Rattle.indexmap.proofs.MapLemmas.{absent_from_lookup, insert_entry-absent}
use Rattle.std.specs.Borrow.{MutBor}
use Rattle.std.specs.Option.{option_copied_mut, OnSome}
use Rattle.std.specs.Cmp.{Equal-is, IsEquivalence, IsTotalOrder}
use Rattle.std.specs.List.{IsDistinct, AllByRecursion, insert, remove}
use Rattle.std.specs.List.Sorted.{IsPartitionedBy, IsStrictlySortedBy}
use Rattle.std.specs.Map.{lookup, keys_of, set_value, remove_entry}
use Rattle.std.specs.Ordering.{is_eq, is_lt, ordering_reverse}
use Rattle.std.specs.declared.cmp.Ordering.{Ordering}
use Rattle.std.specs.declared.cmp.Ordering.TheVariants.{Less}
use Rattle.ctl_ordered.specs.declared.slot.Slot.{Slot}
use Rattle.ctl_ordered.specs.declared.slot.Slot.TheVariants.{Entry, Hole}
use Rattle.indexmap.specs.IndexMap.{insert_entry}
use Rattle.ctl_ordered.specs.Slots.{entries_of, filled_of, value_of, with_value, is_entry, Rises}
use Rattle.ctl_ordered.specs.Ordered.{without_serials, serials_of, filled_serial, found_cmp, order_at, set_filled, cut_filled, IsBelow, KeysRise, HasSerials, IsOrdered}
use Rattle.ctl_ordered.proofs.SlotLemmas.{from_lent, entry_in, filled_at, rises_filled, rises_set, rises_last, rises_squeezed, insert_last, filled_set, filled_cut, filled_last, filled_squeezed, IsEntryOf, filled_found, no_value, no_cut, no_serial, views_set, views_cut, keys_in_filled, all_cut, apart_cut}

is_less : (o : Ordering) → is_lt o ≡ true → o ≡ Less
is_less o e = grind arith

is_greater : (o : Ordering) → is_lt o ≡ false → is_eq o ≡ false → ordering_reverse o ≡ Less
is_greater o e f = grind arith

-- how keys stand to each other, and when they are equal
pub record IsOrderOf {K : Type 0} (eq : K → K → Bool) (R : K → K → Ordering) : Type 0 where
  pub laws : IsEquivalence eq
  pub total : IsTotalOrder R
  pub alike : (x y : K) → eq x y ≡ is_eq (R x y)

pub key_order : {K : Type 0} {eq : K → K → Bool} {R : K → K → Ordering} → IsEquivalence eq → IsTotalOrder R → ((x y : K) → eq x y ≡ is_eq (R x y)) → IsOrderOf eq R
key_order laws total alike = record { laws = laws; total = total; alike = alike }

all_insert : {K : Type 0} (P : K → Type 0) (ps : List (K × ℕ)) (i : ℕ) (p : K × ℕ) → AllByRecursion P (keys_of ps) → P p.0 → AllByRecursion P (keys_of (insert ps i p))
all_insert P ps zero p h x = (x, h)
all_insert P [] (suc i) p h x = (x, tt)
all_insert P (q ∷ ps) (suc i) p h x = (h.0, all_insert P ps i p h.1 x)

-- ---- keys that rise

module _ {K : Type 0} {eq : K → K → Bool} {R : K → K → Ordering} (o : IsOrderOf eq R) where
  apart : (x y : K) → R x y ≡ Less → eq x y ≡ false
  apart x y e = o.alike x y ∙ ap is_eq e

  sorted : (ps : List (K × ℕ)) → KeysRise R ps → IsStrictlySortedBy R (keys_of ps)
  unfolding IsStrictlySortedBy
  sorted [] h = tt
  sorted (p ∷ ps) h = (h.0, sorted ps h.1)

  keys_apart : (ps : List (K × ℕ)) → KeysRise R ps → IsDistinct eq (keys_of ps)
  keys_apart ps h =
      IsDistinct-from_apart eq (keys_of ps) (λ i j d l b. apart (get_or (keys_of ps) i d) (get_or (keys_of ps) j d) (Less-from_sorted R (keys_of ps) i j d (sorted ps h) l b))

  -- a key is found at a place before which there is none
  found_there : (q d : K) (ps : List (K × ℕ)) (r e : ℕ) → ((j : ℕ) → j < r → eq q (get_or (keys_of ps) j d) ≡ false) → r < length ps → eq q (get_or (keys_of ps) r d) ≡ true
      → (lookup (eq q) ps ≡ Some (get_or (map (λ (p : K × ℕ). p.1) ps) r e)) × (remove ps r ≡ remove_entry (eq q) ps)
  found_there q d [] r e h l t = absurd (omega arith)
  found_there q d (p ∷ ps) zero e h l t = (grind (arith, t), grind (arith, t))
  found_there q d (p ∷ ps) (suc r) e h l t =
      let rest = found_there q d ps r e (λ j l. h (suc j) (omega arith)) (omega arith) t in
      let other : eq q p.0 ≡ false = h 0 (omega arith) in
      (grind (arith, other, rest.0), grind (arith, other, rest.1))

  climbs_insert : (q : K) (s : ℕ) (ps : List (K × ℕ)) (r : ℕ) → KeysRise R ps → r ≤ length ps → ((j : ℕ) → j < r → R (get_or (keys_of ps) j q) q ≡ Less) → ((j : ℕ) → r ≤ j → j < length ps → R q (get_or (keys_of ps) j q) ≡ Less)
      → KeysRise R (insert ps r (q, s))
  climbs_insert q s ps zero h l low high =
      (recursion_from_All (λ k. R q k ≡ Less) (keys_of ps) (All-from_get_or (λ k. R q k ≡ Less) (keys_of ps) q (λ j b. high j (omega arith) (omega (arith, b, length-map ps (λ (p : K × ℕ). p.0))))), h)
  climbs_insert q s [] (suc r) h l low high = absurd (omega arith)
  climbs_insert q s (p ∷ ps) (suc r) h l low high =
      (all_insert (λ k. R p.0 k ≡ Less) ps r (q, s) h.0 (low 0 (omega arith)), climbs_insert q s ps r h.1 (omega arith) (λ j b. low (suc j) (omega arith)) (λ j b c. high (suc j) (omega arith) (omega arith)))

  climbs_cut : (test : K → Bool) (ps : List (K × ℕ)) → KeysRise R ps → KeysRise R (remove_entry test ps)
  climbs_cut test [] h = h
  climbs_cut test (p ∷ ps) h = grind (arith, all_cut (R p.0) Less test ps h.0, climbs_cut test ps h.1)

  module _ {V : Type 0} (slots : List (ℕ × Slot K V)) (order : List ℕ) (next : ℕ) (held : IsOrdered eq R slots order next) (q : K) where
    abbrev ps : List (K × ℕ)
    ps = held.pairs

    abbrev filled : List (ℕ × (K × V))
    filled = filled_of slots

    abbrev key : ℕ → K
    key i = get_or (keys_of ps) i q

    -- ---- the order of slots

    climb : (i j : ℕ) → i < j → j < length ps → R (key i) (key j) ≡ Less
    climb i j l b = Less-from_sorted R (keys_of ps) i j q (sorted ps held.climbs) l (omega (arith, b, length-map ps (λ (p : K × ℕ). p.0)))

    entry_found : (k : K) (s : ℕ) → Some s ≡ filled_serial (eq k) filled → (e : K × V) × IsEntryOf (eq k) filled s e
    entry_found k s i = filled_found (eq k) 0 filled next s (rises_filled 0 slots next held.kept.rises) (sym i)

    -- the slot of a serial stands to a key as the serial's key does
    order_read : (i d : ℕ) → i < length ps → order_at R slots q (get_or order i d) ≡ R (key i) q
    order_read i d l =
        let k = key i in
        let s = get_or order i d in
        let own = found_there k q ps i d (λ j m. o.laws.symm k (key j) ∙ apart (key j) k (climb j i m l)) l (o.laws.refl k) in
        let there = entry_found k s (ap (λ (l : List ℕ). Some (get_or l i d)) held.order_is ∙ sym own.0 ∙ held.kept.found k) in
        found_as (lookup (nat_eq s) slots) there.0 (filled_at s 0 slots next held.kept.rises ∙ there.1.slot)
        ∙ sym (o.total.congr k there.0.0 q ((Equal-is (R k there.0.0)).0 (sym (o.alike k there.0.0) ∙ there.1.passes)))
      where
        found_as : (r : Option (Slot K V)) (e : K × V) → entry_in r ≡ Some e → found_cmp R r q ≡ R e.0 q
        found_as r e is = grind arith

    length_order : length order ≡ length ps
    length_order = ap length held.order_is ∙ length-map ps (λ (p : K × ℕ). p.1)

    pub parted : IsPartitionedBy (λ s. is_lt (order_at R slots q s)) order
    parted i j d le l e =
        let b : j < length ps = omega (arith, l, length_order) in
        elim (eq-or-lt_of_le le) [
          | inl same ↦ subst (λ n. is_lt (order_at R slots q (get_or order n d)) ≡ true) (sym same) e
          | inr less ↦
              ap is_lt (order_read i d (omega (arith, b, less)))
              ∙ ap is_lt (o.total.trans (key i) (key j) q (climb i j less b) (is_less (R (key j) q) (sym (ap is_lt (order_read j d b)) ∙ e)))
        ]

    -- ---- what a kept map keeps

    -- the slot of a key's serial has the key's entry
    slot_is : (s : ℕ) (r : Slot K V) → Some s ≡ filled_serial (eq q) filled → Some r ≡ lookup (nat_eq s) slots → (e : K × V) × (r ≡ Entry e.0 e.1) × IsEntryOf (eq q) filled s e
    slot_is s r i at = let there = entry_found q s i in (there.0, entry_is r there.0 (ap entry_in at ∙ filled_at s 0 slots next held.kept.rises ∙ there.1.slot), there.1)
      where
        entry_is : (r : Slot K V) (e : K × V) → entry_in (Some r) ≡ Some e → r ≡ Entry e.0 e.1
        entry_is r e is = grind arith

    pub ordered_value : (s : ℕ) (r : Slot K V) → Some s ≡ filled_serial (eq q) filled → Some r ≡ lookup (nat_eq s) slots → value_of r ≡ lookup (eq q) (entries_of slots)
    ordered_value s r i at = let there = slot_is s r i at in ap value_of there.1 ∙ sym there.2.value

    pub ordered_gap : (s : ℕ) → Some s ≡ filled_serial (eq q) filled → None ≡ lookup (nat_eq s) slots → ⊥
    ordered_gap s i at = let there = entry_found q s i in none-some there.0 (ap entry_in at ∙ filled_at s 0 slots next held.kept.rises ∙ there.1.slot)

    pub ordered_no_value : None ≡ filled_serial (eq q) filled → (None ≡ lookup (eq q) (entries_of slots)) × (entries_of slots ≡ remove_entry (eq q) (entries_of slots)) × (filled ≡ cut_filled (eq q) filled)
    ordered_no_value i =
        let cut = sym (no_cut (eq q) filled (sym i)) in
        (sym (no_value (eq q) filled (sym i)), ap without_serials cut ∙ (views_cut (eq q) filled).0, cut)

    pub ordered_set : (w : V) (s : ℕ) (r x : Slot K V) (m : Option (MutBor V)) → Some s ≡ filled_serial (eq q) filled → Some r ≡ lookup (nat_eq s) slots → option_copied_mut m ≡ value_of r → OnSome m (x ≡ with_value r w)
        → IsOrdered eq R (set_value (nat_eq s) slots x) order next × (entries_of (set_value (nat_eq s) slots x) ≡ set_value (eq q) (entries_of slots) w) × (filled_of (set_value (nat_eq s) slots x) ≡ set_filled (eq q) filled w)
    ordered_set w s r x m i at lent on =
        let there = slot_is s r i at in
        let here = there.1 in
        let set = from_lent m there.0.1 (lent ∙ ap value_of here) on in
        let new : filled_of (set_value (nat_eq s) slots x) ≡ set_filled (eq q) filled w =
        ap (λ y. filled_of (set_value (nat_eq s) slots y)) (set ∙ ap (λ y. with_value y w) here) ∙ filled_set s there.0 w slots (sym at ∙ ap (λ y. Some y) here) ∙ there.2.set w in
        let views = views_set (eq q) filled w in
        let entries = ap without_serials new ∙ views.0 in (
          record {
            pairs = ps;
            order_is = held.order_is;
            kept = record {
              found = λ k. held.kept.found k ∙ sym (ap (lookup (eq k)) (ap serials_of new ∙ views.1));
              rises = rises_set (nat_eq s) x 0 slots next held.kept.rises;
              apart = subst (λ ks. IsDistinct eq ks) (sym (ap keys_of entries ∙ keys-set_value (eq q) (entries_of slots) w)) held.kept.apart;
            };
            climbs = held.climbs;
          },
          entries,
          new,
        )

    -- at the point where those before the key end
    module _ (r : ℕ) (bound : r ≤ length order) (point : IsBelow R slots q order r) where
      low : (j : ℕ) → j < r → R (key j) q ≡ Less
      low j l = is_less (R (key j) q) (sym (ap is_lt (order_read j 0 (omega (arith, l, bound, length_order)))) ∙ point.0 j 0 (omega arith) l)

      there_is : r < length order → is_eq (order_at R slots q (get_or order r 0)) ≡ true → (lookup (eq q) ps ≡ Some (get_or order r 0)) × (remove ps r ≡ remove_entry (eq q) ps)
      there_is l e =
          let b : r < length ps = omega (arith, l, length_order) in
          let there = found_there q q ps r 0 (λ j m. o.laws.symm q (key j) ∙ apart (key j) q (low j m)) b (o.laws.symm q (key r) ∙ o.alike (key r) q ∙ sym (ap is_eq (order_read r 0 b)) ∙ e) in
          (there.0 ∙ ap (λ (l : List ℕ). Some (get_or l r 0)) (sym held.order_is), there.1)

      pub serial_there : r < length order → is_eq (order_at R slots q (get_or order r 0)) ≡ true → Some (get_or order r 0) ≡ filled_serial (eq q) filled
      serial_there l e = sym (there_is l e).0 ∙ held.kept.found q

      -- where the key there is another, those from there on are above
      module _ (other : r < length order → is_eq (order_at R slots q (get_or order r 0)) ≡ false) where
        above : (j : ℕ) → r ≤ j → j < length ps → R q (key j) ≡ Less
        above j m l = elim (eq-or-lt_of_le m) [
          | inl same ↦ subst (λ n. R q (key n) ≡ Less) same (first (omega (arith, l, m)))
          | inr more ↦ o.total.trans q (key r) (key j) (first (omega (arith, l, m))) (climb r j more l)
        ]
          where
            first : r < length ps → R q (key r) ≡ Less
            first l =
                let read = order_read r 0 l in
                let b : r < length order = omega (arith, l, length_order) in
                o.total.antisymm q (key r) ∙ is_greater (R (key r) q) (sym (ap is_lt read) ∙ point.1 r 0 (omega arith) b) (sym (ap is_eq read) ∙ other b)

        pub serial_nowhere : None ≡ filled_serial (eq q) filled
        serial_nowhere =
            sym (found_nowhere (lookup (eq q)) (λ (p : K × ℕ). eq q p.0) (λ p. Some p.1) None refl (λ p ps. refl) ps (q, 0) (λ j l. ap (eq q) (sym (get_or-map (λ (p : K × ℕ). p.0) ps j (q, 0) q l)) ∙ not_at j l))
            ∙ held.kept.found q
          where
            not_at : (j : ℕ) → j < length ps → eq q (key j) ≡ false
            not_at j l = elim (cases_lt j r) [
              | inl less ↦ o.laws.symm q (key j) ∙ apart (key j) q (low j less)
              | inr more ↦ apart q (key j) (above j more l)
            ]

      pub ordered_pushed : (v : V) → lookup (eq q) (entries_of slots) ≡ None
          → IsOrdered eq R (insert_entry nat_eq slots next (Entry q v)) (insert order r next) (next + 1) × (entries_of (insert_entry nat_eq slots next (Entry q v)) ≡ insert_entry eq (entries_of slots) q v) × (filled_of (insert_entry nat_eq slots next (Entry q v)) ≡ filled ++ (next, (q, v)) ∷ [])
      ordered_pushed v none =
          let free = no_serial (eq q) filled none in
          let all = insert_last (Entry q v) 0 slots next held.kept.rises in
          let new : filled_of (insert_entry nat_eq slots next (Entry q v)) ≡ filled ++ (next, (q, v)) ∷ [] = ap filled_of all ∙ filled_last slots next (q, v) in
          let entries : entries_of (insert_entry nat_eq slots next (Entry q v)) ≡ entries_of slots ++ (q, v) ∷ [] = ap without_serials new ∙ map-append (λ (slot : ℕ × (K × V)). slot.1) filled ((next, (q, v)) ∷ []) in
          let serials : serials_of (filled_of (insert_entry nat_eq slots next (Entry q v))) ≡ insert (serials_of filled) (length (serials_of filled)) (q, next) =
          ap serials_of new ∙ map-append (λ (slot : ℕ × (K × V)). (slot.1.0, slot.0)) filled ((next, (q, v)) ∷ []) ∙ sym (insert_end (serials_of filled) (q, next)) in
          let other : r < length order → is_eq (order_at R slots q (get_or order r 0)) ≡ false = λ l. elim (cases_Bool (is_eq (order_at R slots q (get_or order r 0)))) [
            | inl e ↦ absurd (none-some (get_or order r 0) (sym free ∙ sym (serial_there l e)))
            | inr e ↦ e
          ] in (
            record {
              pairs = insert ps r (q, next);
              order_is = ap (λ l. insert l r next) held.order_is ∙ sym (map-insert (λ (p : K × ℕ). p.1) ps r (q, next));
              kept = record {
                found = λ k.
                    lookup-insert o.laws q next k ps r (none_passes_from_lookup (eq q) ps (held.kept.found q ∙ free)) ∙ ap (λ x. cond (eq q k) (Some next) x) (held.kept.found k)
                    ∙ sym (ap (lookup (eq k)) serials ∙ lookup-insert o.laws q next k (serials_of filled) (length (serials_of filled)) (none_passes_from_lookup (eq q) (serials_of filled) free));
                rises = subst (λ l. Rises 0 l (next + 1)) (sym all) (rises_last (Entry q v) 0 slots next held.kept.rises);
                apart =
                    subst (IsDistinct eq) (sym (ap keys_of entries ∙ map-append (λ (e : K × V). e.0) (entries_of slots) ((q, v) ∷ [])))
                    (IsDistinct-push o.laws (keys_of (entries_of slots)) q held.kept.apart (sym (is_some-lookup (eq q) (entries_of slots)) ∙ ap is_some none));
              };
              climbs = climbs_insert q next ps r held.climbs (omega (arith, bound, length_order)) low (above other);
            },
            entries ∙ sym (insert_entry-absent eq q v (entries_of slots) (absent_from_lookup (eq q) (entries_of slots) none)),
            new,
          )

      pub ordered_cut : (s : ℕ) → Some s ≡ filled_serial (eq q) filled → r < length order
          → IsOrdered eq R (set_value (nat_eq s) slots Hole) (remove order r) next × (entries_of (set_value (nat_eq s) slots Hole) ≡ remove_entry (eq q) (entries_of slots)) × (filled_of (set_value (nat_eq s) slots Hole) ≡ cut_filled (eq q) filled)
      ordered_cut s i l =
          let here : is_eq (order_at R slots q (get_or order r 0)) ≡ true = elim (cases_Bool (is_eq (order_at R slots q (get_or order r 0)))) [
            | inl e ↦ e
            | inr e ↦ absurd (none-some s (serial_nowhere (λ l. e) ∙ sym i))
          ] in
          let new : filled_of (set_value (nat_eq s) slots Hole) ≡ cut_filled (eq q) filled = filled_cut s 0 slots next held.kept.rises ∙ (entry_found q s i).1.cut in
          let views = views_cut (eq q) filled in
          let entries = ap without_serials new ∙ views.0 in (
            record {
              pairs = remove_entry (eq q) ps;
              order_is = ap (λ l. remove l r) held.order_is ∙ sym (map-remove (λ (p : K × ℕ). p.1) ps r) ∙ ap (map (λ (p : K × ℕ). p.1)) (there_is l here).1;
              kept = record {
                found = λ k.
                    lookup-remove_entry o.laws (eq q) (o.laws.congr q) k ps (keys_apart ps held.climbs) ∙ ap (λ x. cond (eq q k) None x) (held.kept.found k)
                    ∙ sym (ap (lookup (eq k)) (ap serials_of new ∙ views.1) ∙ lookup-remove_entry o.laws (eq q) (o.laws.congr q) k (serials_of filled) (subst (IsDistinct eq) (sym (keys_in_filled filled)) held.kept.apart));
                rises = rises_set (nat_eq s) Hole 0 slots next held.kept.rises;
                apart = subst (λ (es : List (K × V)). IsDistinct eq (keys_of es)) (sym entries) (apart_cut eq q (entries_of slots) held.kept.apart);
              };
              climbs = climbs_cut (eq q) ps held.climbs;
            },
            entries,
            new,
          )

module _ {K V : Type 0} {eq : K → K → Bool} {R : K → K → Ordering} (slots : List (ℕ × Slot K V)) (order : List ℕ) where
  pub empty_ordered : slots ≡ [] → order ≡ [] → IsOrdered eq R slots order 0
  unfolding IsDistinct
  empty_ordered e f =
      record {
        pairs = [];
        order_is = f;
        kept = subst (λ (l : List (ℕ × Slot K V)). HasSerials eq l [] 0) (sym e) (record { found = λ k. refl; rises = omega arith; apart = tt });
        climbs = tt;
      }

  pub ordered_squeezed : (next : ℕ) → IsOrdered eq R slots order next → IsOrdered eq R (filter (λ (r : ℕ × Slot K V). is_entry r.1) slots) order next
  ordered_squeezed next held =
      record {
        pairs = held.pairs;
        order_is = held.order_is;
        kept = record {
          found = λ q. held.kept.found q ∙ sym (ap (filled_serial (eq q)) (filled_squeezed slots));
          rises = rises_squeezed 0 slots next held.kept.rises;
          apart = subst (λ (filled : List (ℕ × (K × V))). IsDistinct eq (keys_of (without_serials filled))) (sym (filled_squeezed slots)) held.kept.apart;
        };
        climbs = held.climbs;
      }
