-- What an edit makes of the keys that come and go.
use Rattle.std.proofs.Common.{◌≡◌, ℕ, zero, suc, ◌+◌, ◌<◌, ◌≤◌, Bool, true, false, cond, nat_eq, List, [], ◌∷◌, ◌++◌, map, take, drop, Option, None, Some, IsSome, refl, ap, sym, subst, ◌∙◌, arith}
use Rattle.std.specs.List.{AllByRecursion, remove, slice_get}
use Rattle.std.specs.Map.{lookup}
use Rattle.std.specs.Option.{option_map_or}
use Rattle.ctl_stanza.specs.Content.{Content, package_of, version_of}
use Rattle.ctl_store.specs.declared.stanza_key.StanzaKey.{StanzaKey}
use Rattle.ctl_store.specs.Named.{at_name, without_name, change_named}
use Rattle.ctl_store.specs.Step.{place}
use Rattle.ctl_store.specs.Edits.{Edit, AddList, DropList, Put, Remove}
use Rattle.ctl_store.specs.Slots.{Rises, by_name_and_version, slots_from, replace_at, put_slot_at, remove_slot_at}
use Rattle.ctl_store.specs.Keys.{KeyedList, Keyed, key_of, keys_of, key_at, key_or_new, found_key, put_key, key_is, in_slots, stanza_at, put_keyed, remove_keyed, list_of_stanzas, keyed_after, removed_of, added_of, IsNotAmong, AreCome, AreGone, AreNew, AreHeld}
use Rattle.ctl_store.specs.Inside.Sound.{InOrder}
use Rattle.std.proofs.lemmas.Bool.{and_parts, and_from}
use Rattle.ctl_store.proofs.PlaceLemmas.{eq_is, lt_ne, gt_ne, is_eq_from, or_none, all_map}
use Rattle.ctl_store.proofs.KeyLemmas.{not_none, keys_held, held_in, first_is, later_is, in_some, none_later}
use Rattle.ctl_ordered.proofs.SlotLemmas.{rises_end}

abbrev pub stanza_in : ℕ → List (ℕ × Content) → Option Content
stanza_in serial slots = lookup (λ s. nat_eq s serial) slots

-- ---- slots

-- no slot of a serial below the first, or above the last
below_slots : (s n : ℕ) (rs : List (ℕ × Content)) (m : ℕ) → s < n → Rises n rs m → stanza_in s rs ≡ None
below_slots s n [] m l h = refl
below_slots s n (r ∷ rs) m l h = ap (λ b. cond b (Some r.1) (stanza_in s rs)) (gt_ne r.0 s (omega (arith, h.0))) ∙ below_slots s (suc r.0) rs m (omega (arith, h.0)) h.1

above_slots : (n : ℕ) (rs : List (ℕ × Content)) (m : ℕ) → Rises n rs m → stanza_in m rs ≡ None
above_slots n [] m h = refl
above_slots n (r ∷ rs) m h = ap (λ b. cond b (Some r.1) (stanza_in m rs)) (lt_ne r.0 m (rises_end (suc r.0) rs m h.1)) ∙ above_slots (suc r.0) rs m h.1

pushed_in : (n : ℕ) (rs : List (ℕ × Content)) (m : ℕ) (x : Content) → Rises n rs m → stanza_in m (rs ++ (m, x) ∷ []) ≡ Some x
pushed_in n [] m x h = ap (λ b. cond b (Some x) None) (eq_is m m refl)
pushed_in n (r ∷ rs) m x h = ap (λ b. cond b (Some r.1) (stanza_in m (rs ++ (m, x) ∷ []))) (lt_ne r.0 m (rises_end (suc r.0) rs m h.1)) ∙ pushed_in (suc r.0) rs m x h.1

-- from each serial of the slots on the stanza is found
from_on : (n j : ℕ) (xs : List Content) → stanza_in (n + j) (slots_from n xs) ≡ slice_get xs j
from_on n zero [] = refl
from_on n (suc j) [] = refl
from_on n zero (x ∷ xs) = ap (λ b. cond b (Some x) (stanza_in (n + 0) (slots_from (suc n) xs))) (eq_is n (n + 0) (omega arith))
from_on n (suc j) (x ∷ xs) = grind (arith, from_on (suc n) j xs)

module _ (list : ℕ) where
  abbrev Each : (ℕ → Type 0) → List (ℕ × Content) → Type 0
  Each P rs = AllByRecursion (λ (k : StanzaKey). P k.stanza) (map (λ (slot : ℕ × Content). key_of list slot.0) rs)

  replaced_in : (n : ℕ) (rs : List (ℕ × Content)) (m i : ℕ) (x : Content) → Rises n rs m → Each (λ s. (n ≤ s) × (stanza_in s (replace_at rs i x) ≡ Some x)) (take 1 (drop i rs))
  replaced_in n [] m zero x h = tt
  replaced_in n [] m (suc i) x h = tt
  replaced_in n (r ∷ rs) m zero x h = ((h.0, ap (λ b. cond b (Some x) (stanza_in r.0 rs)) (eq_is r.0 r.0 refl)), tt)
  replaced_in n (r ∷ rs) m (suc i) x h = grind (arith, replaced_in (suc r.0) rs m i x h.1)

  removed_in : (n : ℕ) (rs : List (ℕ × Content)) (m i : ℕ) → Rises n rs m → Each (λ s. (n ≤ s) × (stanza_in s (remove rs i) ≡ None)) (take 1 (drop i rs))
  removed_in n [] m zero h = tt
  removed_in n [] m (suc i) h = tt
  removed_in n (r ∷ rs) m zero h = ((h.0, below_slots r.0 (suc r.0) rs m (omega arith) h.1), tt)
  removed_in n (r ∷ rs) m (suc i) h = grind (arith, removed_in (suc r.0) rs m i h.1)

-- ---- lists

module _ (k : StanzaKey) where
  pub ends : (n : ℕ) (ls : List (List ℕ × KeyedList)) (m e : ℕ) → InOrder n ls m e → n ≤ m
  ends n [] m e h = h
  ends n (x ∷ ls) m e h = omega (arith, h.0, ends (suc x.1.serial) ls m e h.3)

  -- a key of the next list is in none that is there
  none_of_next : (n : ℕ) (ls : List (List ℕ × KeyedList)) (m e : ℕ) → k.list ≡ m → InOrder n ls m e → stanza_at k ls ≡ None
  none_of_next n [] m e l h = refl
  none_of_next n (x ∷ ls) m e l h = grind (arith, lt_ne, ends, none_of_next (suc x.1.serial) ls m e l h.3)

  in_next : (n : ℕ) (ls : List (List ℕ × KeyedList)) (m e : ℕ) (name : List ℕ) (l : KeyedList) → k.list ≡ m → InOrder n ls m e → stanza_at k (ls ++ (name, l) ∷ []) ≡ in_slots k l
  in_next n [] m e name l q h = or_none (in_slots k l)
  in_next n (x ∷ ls) m e name l q h = grind (arith, lt_ne, ends, in_next (suc x.1.serial) ls m e name l q h.3)

  -- the list of a name has no serial below the first
  from_first : (n : ℕ) (ls : List (List ℕ × KeyedList)) (m e : ℕ) (name : List ℕ) (l : KeyedList) → InOrder n ls m e → at_name name ls ≡ Some l → n ≤ l.serial
  from_first n [] m e name l h at = cc at
  from_first n (x ∷ ls) m e name l h at = grind (arith, from_first (suc x.1.serial) ls m e name l h.3)

  -- a key of the list of a name, where that list is changed
  in_changed : (n : ℕ) (ls : List (List ℕ × KeyedList)) (m e : ℕ) (name : List ℕ) (l : KeyedList) (f : KeyedList → KeyedList) → InOrder n ls m e → at_name name ls ≡ Some l → k.list ≡ l.serial → stanza_at k (change_named name f ls) ≡ in_slots k (f l)
  in_changed n [] m e name l f h at is = cc at
  in_changed n (x ∷ ls) m e name l f h at is = grind (arith, from_first, none_later, or_none, lt_ne, in_changed (suc x.1.serial) ls m e name l f h.3)

  pub in_list : (n : ℕ) (ls : List (List ℕ × KeyedList)) (m e : ℕ) (name : List ℕ) (l : KeyedList) → InOrder n ls m e → at_name name ls ≡ Some l → k.list ≡ l.serial → stanza_at k ls ≡ in_slots k l
  in_list n [] m e name l h at is = cc at
  in_list n (x ∷ ls) m e name l h at is = grind (arith, from_first, none_later, or_none, lt_ne, in_list (suc x.1.serial) ls m e name l h.3)

  in_dropped : (n : ℕ) (ls : List (List ℕ × KeyedList)) (m e : ℕ) (name : List ℕ) (l : KeyedList) → InOrder n ls m e → at_name name ls ≡ Some l → k.list ≡ l.serial → stanza_at k (without_name name ls) ≡ None
  in_dropped n [] m e name l h at is = cc at
  in_dropped n (x ∷ ls) m e name l h at is = grind (arith, from_first, none_later, lt_ne, in_dropped (suc x.1.serial) ls m e name l h.3)

  pub of_serial : (l : KeyedList) → k.list ≡ l.serial → in_slots k l ≡ stanza_in k.stanza l.slots
  of_serial l is = ap (λ b. cond b (stanza_in k.stanza l.slots) None) (eq_is l.serial k.list (sym is))

-- what the slots of the list of a name have
pub slots_rise : (n : ℕ) (ls : List (List ℕ × KeyedList)) (m e : ℕ) (name : List ℕ) (l : KeyedList) → InOrder n ls m e → at_name name ls ≡ Some l → Rises 0 l.slots l.next
slots_rise n [] m e name l h at = cc at
slots_rise n (x ∷ ls) m e name l h at = grind (arith, slots_rise (suc x.1.serial) ls m e name l h.3)

pub is_itself : (k : StanzaKey) → key_is k k ≡ true
is_itself k = and_from (nat_eq k.list k.list) (nat_eq k.stanza k.stanza) (eq_is k.list k.list refl) (eq_is k.stanza k.stanza refl)

-- ---- the laws

module _ (s : Keyed) (e : ℕ) (order : InOrder 0 s.lists s.next_list e) where
  -- each stanza of a new list
  new_come : (n : ℕ) (name : List ℕ) (l : KeyedList) (all xs : List Content) → l.serial ≡ s.next_list → l.slots ≡ slots_from 0 all → ((j : ℕ) → slice_get all (n + j) ≡ slice_get xs j)
      → AllByRecursion (λ (k : StanzaKey). stanza_at k (s.lists ++ (name, l) ∷ []) ≡ slice_get all k.stanza) (map (λ (slot : ℕ × Content). key_of l.serial slot.0) (slots_from n xs))
  new_come n name l all [] is slots each = tt
  new_come n name l all (x ∷ xs) is slots each = (
    in_next (key_of l.serial n) 0 s.lists s.next_list e name l is order ∙ of_serial (key_of l.serial n) l refl ∙ ap (stanza_in n) slots ∙ ap (λ j. stanza_in j (slots_from 0 all)) (let z : n ≡ 0 + n = omega arith in z) ∙ from_on 0 n all,
    new_come (suc n) name l all xs is slots (λ j. ap (slice_get all) (let z : suc n + j ≡ n + suc j = omega arith in z) ∙ each (suc j)),
  )

  put_come : (list : List ℕ) (x : Content) (l : KeyedList) → at_name list s.lists ≡ Some l → AreCome (put_key x l) (Put list x) (change_named list (put_keyed x) s.lists)
  put_come list x l at = by (place (by_name_and_version (package_of x) (version_of x)) l.slots) refl
    where
      rise : Rises 0 l.slots l.next
      rise = slots_rise 0 s.lists s.next_list e list l order at

      by : (o : Option ℕ) → place (by_name_and_version (package_of x) (version_of x)) l.slots ≡ o → AreCome (key_or_new l o) (Put list x) (change_named list (put_keyed x) s.lists)
      by None is = (in_changed (key_of l.serial l.next) 0 s.lists s.next_list e list l (put_keyed x) order at refl ∙ of_serial (key_of l.serial l.next) (put_keyed x l) refl ∙ ap (λ o. stanza_in l.next (put_slot_at o x l.next l.slots)) is ∙ pushed_in 0 l.slots l.next x rise, tt)
      by (Some i) is = over (take 1 (drop i l.slots)) (replaced_in l.serial 0 l.slots l.next i x rise)
        where
          over : (qs : List (ℕ × Content)) → Each l.serial (λ s. (0 ≤ s) × (stanza_in s (replace_at l.slots i x) ≡ Some x)) qs → AreCome (map (λ (slot : ℕ × Content). key_of l.serial slot.0) qs) (Put list x) (change_named list (put_keyed x) s.lists)
          over [] g = tt
          over (q ∷ qs) g = (in_changed (key_of l.serial q.0) 0 s.lists s.next_list e list l (put_keyed x) order at refl ∙ of_serial (key_of l.serial q.0) (put_keyed x l) refl ∙ ap (λ o. stanza_in q.0 (put_slot_at o x l.next l.slots)) is ∙ g.0.1, over qs g.1)

  kept_come : (list : List ℕ) (x : Content) (o : Option KeyedList) → at_name list s.lists ≡ o → AreCome (option_map_or (put_key x) o []) (Put list x) (change_named list (put_keyed x) s.lists)
  kept_come list x o at = grind (arith, put_come)

  pub come_law : (edit : Edit) → AreCome (added_of s edit) edit (keyed_after s edit).lists
  come_law (AddList name kind class stanzas) = new_come 0 name (list_of_stanzas s.next_list kind class stanzas) stanzas stanzas refl refl (λ j. ap (slice_get stanzas) (let z : 0 + j ≡ j = omega arith in z))
  come_law (Put list x) = kept_come list x (at_name list s.lists) refl
  come_law edit = tt

  drop_gone : (name : List ℕ) (o : Option KeyedList) → at_name name s.lists ≡ o → AreGone (option_map_or keys_of o []) [] (without_name name s.lists)
  drop_gone name None at = tt
  drop_gone name (Some l) at = over l.slots
    where
      over : (qs : List (ℕ × Content)) → AreGone (map (λ (slot : ℕ × Content). key_of l.serial slot.0) qs) [] (without_name name s.lists)
      over [] = tt
      over (q ∷ qs) = ((λ h. in_dropped (key_of l.serial q.0) 0 s.lists s.next_list e name l order at refl), over qs)

  remove_gone : (list name : List ℕ) (version : Option (List ℕ)) (o : Option KeyedList) → at_name list s.lists ≡ o → AreGone (option_map_or (found_key name version) o []) [] (change_named list (remove_keyed name version) s.lists)
  remove_gone list name version None at = tt
  remove_gone list name version (Some l) at = by (place (by_name_and_version name version) l.slots) refl
    where
      rise : Rises 0 l.slots l.next
      rise = slots_rise 0 s.lists s.next_list e list l order at

      by : (o : Option ℕ) → place (by_name_and_version name version) l.slots ≡ o → AreGone (key_at l o) [] (change_named list (remove_keyed name version) s.lists)
      by None is = tt
      by (Some i) is = over (take 1 (drop i l.slots)) (removed_in l.serial 0 l.slots l.next i rise)
        where
          over : (qs : List (ℕ × Content)) → Each l.serial (λ s. (0 ≤ s) × (stanza_in s (remove l.slots i) ≡ None)) qs → AreGone (map (λ (slot : ℕ × Content). key_of l.serial slot.0) qs) [] (change_named list (remove_keyed name version) s.lists)
          over [] g = tt
          over (q ∷ qs) g = ((λ h. in_changed (key_of l.serial q.0) 0 s.lists s.next_list e list l (remove_keyed name version) order at refl ∙ of_serial (key_of l.serial q.0) (remove_keyed name version l) refl ∙ ap (λ o. stanza_in q.0 (remove_slot_at o l.slots)) is ∙ g.0.1), over qs g.1)

  put_gone : (list : List ℕ) (x : Content) (o : Option KeyedList) → at_name list s.lists ≡ o → AreGone (option_map_or (found_key (package_of x) (version_of x)) o []) (option_map_or (put_key x) o []) (change_named list (put_keyed x) s.lists)
  put_gone list x o at = grind arith

  pub gone_law : (edit : Edit) → AreGone (removed_of s edit) (added_of s edit) (keyed_after s edit).lists
  gone_law (DropList name) = drop_gone name (at_name name s.lists) refl
  gone_law (Put list x) = put_gone list x (at_name list s.lists) refl
  gone_law (Remove list name version) = remove_gone list name (Some version) (at_name list s.lists) refl
  gone_law edit = tt

  put_new : (list : List ℕ) (x : Content) (o : Option KeyedList) → at_name list s.lists ≡ o → AreNew (option_map_or (put_key x) o []) (option_map_or (found_key (package_of x) (version_of x)) o []) s.lists
  put_new list x None at = tt
  put_new list x (Some l) at = by (place (by_name_and_version (package_of x) (version_of x)) l.slots)
    where
      by : (o : Option ℕ) → AreNew (key_or_new l o) (key_at l o) s.lists
      by None = ((λ h. in_list (key_of l.serial l.next) 0 s.lists s.next_list e list l order at refl ∙ of_serial (key_of l.serial l.next) l refl ∙ above_slots 0 l.slots l.next (slots_rise 0 s.lists s.next_list e list l order at)), tt)
      by (Some i) = over (take 1 (drop i l.slots))
        where
          over : (qs : List (ℕ × Content)) → AllByRecursion (λ k. IsNotAmong k (map (λ (slot : ℕ × Content). key_of l.serial slot.0) qs) → stanza_at k s.lists ≡ None) (map (λ (slot : ℕ × Content). key_of l.serial slot.0) qs)
          over [] = tt
          over (q ∷ qs) = ((λ h. absurd (let e : true ≡ false = sym (is_itself (key_of l.serial q.0)) ∙ h.0 in cc)), all_map (λ k g h. g h.1) (map (λ (slot : ℕ × Content). key_of l.serial slot.0) qs) (over qs))

  list_new : (rs : List (ℕ × Content)) → AreNew (map (λ (slot : ℕ × Content). key_of s.next_list slot.0) rs) [] s.lists
  list_new [] = tt
  list_new (r ∷ rs) = ((λ h. none_of_next (key_of s.next_list r.0) 0 s.lists s.next_list e refl order), list_new rs)

  pub new_law : (edit : Edit) → AreNew (added_of s edit) (removed_of s edit) s.lists
  new_law (AddList name kind class stanzas) = list_new (slots_from 0 stanzas)
  new_law (Put list x) = put_new list x (at_name list s.lists) refl
  new_law edit = tt

-- ---- each key that goes has a stanza

some_there : (list : ℕ) (rs : List (ℕ × Content)) (i : ℕ) → AllByRecursion (in_some list rs) (map (λ (r : ℕ × Content). key_of list r.0) (take 1 (drop i rs)))
some_there list [] zero = tt
some_there list [] (suc i) = tt
some_there list (r ∷ rs) zero = (first_is (nat_eq list list) (nat_eq r.0 r.0) r.1 (lookup (λ s. nat_eq s r.0) rs) (eq_is list list refl) (eq_is r.0 r.0 refl), tt)
some_there list (r ∷ rs) (suc i) = all_map (λ k h. later_is (nat_eq list k.list) (nat_eq r.0 k.stanza) r.1 (lookup (λ s. nat_eq s k.stanza) rs) h) (map (λ (r : ℕ × Content). key_of list r.0) (take 1 (drop i rs))) (some_there list rs i)

found_held : (name : List ℕ) (version : Option (List ℕ)) (list : List ℕ) (ls : List (List ℕ × KeyedList)) → AreHeld (option_map_or (found_key name version) (at_name list ls) []) ls
found_held name version list ls = held_in (found_key name version) (λ l. at_place l (place (by_name_and_version name version) l.slots)) list ls
  where
    at_place : (l : KeyedList) (o : Option ℕ) → AllByRecursion (in_some l.serial l.slots) (key_at l o)
    at_place l None = tt
    at_place l (Some i) = some_there l.serial l.slots i

pub removed_held : (s : Keyed) (edit : Edit) → AreHeld (removed_of s edit) s.lists
removed_held s (DropList name) = keys_held name s.lists
removed_held s (Put list x) = found_held (package_of x) (version_of x) list s.lists
removed_held s (Remove list name version) = found_held name (Some version) list s.lists
removed_held s edit = tt

-- what holds of a store and of keys holds of their equals
pub moved : (P : Keyed → List StanzaKey → List StanzaKey → Type 0) {s t : Keyed} {r a removed added : List StanzaKey} → t ≡ s → removed ≡ r → added ≡ a → P s r a → P t removed added
moved P {s} {t} {r} {a} {removed} {added} e f g h = subst (λ t. P t removed added) (sym e) (subst (λ ks. P s ks added) (sym f) (subst (P s r) (sym g) h))

-- a key that has a stanza and doesn't go doesn't come
pub not_added : (k : StanzaKey) (added removed : List StanzaKey) (ls : List (List ℕ × KeyedList)) → AreNew added removed ls → IsSome (stanza_at k ls) → IsNotAmong k removed → IsNotAmong k added
not_added k [] removed ls n h g = tt
not_added k (q ∷ qs) removed ls n h g = (by (key_is k q) refl, not_added k qs removed ls n.1 h g)
  where
    by : (b : Bool) → key_is k q ≡ b → key_is k q ≡ false
    by false is = is
    by true is =
        let both = and_parts (nat_eq q.list k.list) (nat_eq q.stanza k.stanza) is in
        let lists : q.list ≡ k.list = is_eq_from q.list k.list both.0 in
        let stanzas : q.stanza ≡ k.stanza = is_eq_from q.stanza k.stanza both.1 in
        let same_key : q ≡ k = ap (λ a. key_of a q.stanza) lists ∙ ap (λ b. key_of k.list b) stanzas in
        not_none (stanza_at k ls) h (ap (λ k. stanza_at k ls) (sym same_key) ∙ n.0 (subst (λ k. IsNotAmong k removed) (sym same_key) g))
