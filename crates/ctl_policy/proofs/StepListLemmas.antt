-- Stanzas that stay under their keys stay in lists of the same names and priorities.
use Rattle.std.proofs.Common.{◌≡◌, ℕ, ℤ, pos, Bool, true, false, cond, ◌||◌, nat_eq, List, [], ◌∷◌, ◌++◌, Option, None, Some, is_some, option_map, unwrap_or, refl, ap, sym, subst, ◌∙◌}
use Rattle.std.specs.Str.{bytes_eq}
use Rattle.std.specs.List.{AllByRecursion, IsDistinct}
use Rattle.std.specs.Map.{keys_of as names_of}
use Rattle.std.specs.Option.{option_or, option_map_or}
use Rattle.std.proofs.lemmas.Bool.{false≢true}
use Rattle.std.proofs.lemmas.Slice.Eq.{bytes_eq-Decides}
use Rattle.ctl_stanza.specs.declared.list_kind.ListKind.{ListKind}
use Rattle.ctl_stanza.specs.Content.{Content}
use Rattle.ctl_store.specs.declared.list_class.ListClass.{ListClass}
use Rattle.ctl_store.specs.declared.stanza_key.StanzaKey.{StanzaKey}
use Rattle.ctl_store.specs.Named.{at_name, without_name, change_named}
use Rattle.ctl_store.specs.Pins.{general_pin}
use Rattle.ctl_store.specs.State.{StanzaList}
use Rattle.ctl_store.specs.Keys.{KeyedList, stanza_list, stanza_lists, key_is, keys_of, all_keys, all_in, AreRising, in_slots, stanza_at, holder_of}
use Rattle.ctl_store.specs.Entries.{Entry, entries_of, entries_in, entry_keys}
use Rattle.ctl_policy.specs.Keys.{has_key}
use Rattle.ctl_policy.specs.Rows.{Lists}
use Rattle.ctl_policy.specs.Priority.{World, is_target, own_priority, priority_of_list, list_priority}
use Rattle.ctl_policy.specs.Laws.{with_lists}
use Rattle.ctl_policy.proofs.SetLemmas.{key_is-same, below_absent}
use Rattle.ctl_policy.proofs.DefinedLemmas.{placed_rows, keys_are, find_in, find_in-rows, find_placed}
use Rattle.ctl_policy.proofs.TouchLemmas.{or_right}

-- ---- a key stands in one list alone

pub found_behind : (k : StanzaKey) (es fs : List Entry) → is_some (find_in k fs) ≡ true → has_key k (entry_keys (es ++ fs)) ≡ true
found_behind k [] [] h = absurd (false≢true h)
found_behind k [] (f ∷ fs) h = by (key_is k f.0) h (found_behind k [] fs)
  where
    by : (b : Bool) → is_some (cond b (Some f.1) (find_in k fs)) ≡ true → (is_some (find_in k fs) ≡ true → has_key k (entry_keys fs) ≡ true) → (b || has_key k (entry_keys fs)) ≡ true
    by true h rest = refl
    by false h rest = rest h
found_behind k (e ∷ es) fs h = or_right (key_is k e.0) (has_key k (entry_keys (es ++ fs))) (found_behind k es fs h)

apart : (k : StanzaKey) (es fs : List Entry) → AreRising (entry_keys (es ++ fs)) → is_some (find_in k es) ≡ true → is_some (find_in k fs) ≡ true → ⊥
apart k [] fs r h g = false≢true h
apart k (e ∷ es) fs r h g = by (key_is k e.0) refl h (apart k es fs r.1)
  where
    by : (b : Bool) → key_is k e.0 ≡ b → is_some (cond b (Some e.1) (find_in k es)) ≡ true → (is_some (find_in k es) ≡ true → is_some (find_in k fs) ≡ true → ⊥) → ⊥
    by true is h rest = false≢true (sym (below_absent e.0 (entry_keys (es ++ fs)) r.0) ∙ ap (λ z. has_key z (entry_keys (es ++ fs))) (sym (key_is-same k e.0 is)) ∙ found_behind k es fs g)
    by false is h rest = rest h g

found_in_list : (k : StanzaKey) (l : KeyedList) → find_in k (entries_in l) ≡ in_slots k l
found_in_list k l = find_in-rows k l.serial l.slots (nat_eq l.serial k.list) refl

twice : (k : StanzaKey) (l : List ℕ × KeyedList) (ls : Lists) → AreRising (all_keys (l ∷ ls)) → is_some (in_slots k l.1) ≡ true → is_some (stanza_at k ls) ≡ true → ⊥
twice k l ls r h g = apart k (entries_in l.1) (entries_of ls) (subst AreRising (sym (keys_are (l ∷ ls))) r) (ap is_some (found_in_list k l.1) ∙ h) (ap is_some (find_placed k ls) ∙ g)

pub behind_rises : (xs ys : List StanzaKey) → AreRising (xs ++ ys) → AreRising ys
behind_rises [] ys r = r
behind_rises (x ∷ xs) ys r = behind_rises xs ys r.1

-- ---- the names of lists under keys

module _ (k : StanzaKey) where
  pub change_holder : (f : KeyedList → KeyedList) (list : List ℕ) (ls : Lists) → AreRising (all_keys ls) → AreRising (all_keys (change_named list f ls)) → is_some (stanza_at k ls) ≡ true
      → stanza_at k (change_named list f ls) ≡ stanza_at k ls → holder_of k (change_named list f ls) ≡ holder_of k ls
  change_holder f list [] r s h e = refl
  change_holder f list (l ∷ ls) r s h e = by (bytes_eq list l.0) s e (change_holder f list ls (behind_rises (keys_of l.1) (all_keys ls) r))
    where
      here : (a b : Option Content) → in_slots k l.1 ≡ a → in_slots k (f l.1) ≡ b → AreRising (all_keys ((l.0, f l.1) ∷ ls)) → is_some (option_or a (stanza_at k ls)) ≡ true → option_or b (stanza_at k ls) ≡ option_or a (stanza_at k ls)
          → cond (is_some b) (Some l.0) (holder_of k ls) ≡ cond (is_some a) (Some l.0) (holder_of k ls)
      here None None p q s h e = refl
      here (Some x) (Some y) p q s h e = refl
      here (Some x) None p q s h e = absurd (twice k l ls r (ap is_some p) (ap is_some e))
      here None (Some y) p q s h e = absurd (twice k (l.0, f l.1) ls s (ap is_some q) h)

      there : (a : Option Content) → is_some (option_or a (stanza_at k ls)) ≡ true → option_or a (stanza_at k (change_named list f ls)) ≡ option_or a (stanza_at k ls)
          → (is_some (stanza_at k ls) ≡ true → stanza_at k (change_named list f ls) ≡ stanza_at k ls → holder_of k (change_named list f ls) ≡ holder_of k ls)
          → cond (is_some a) (Some l.0) (holder_of k (change_named list f ls)) ≡ cond (is_some a) (Some l.0) (holder_of k ls)
      there (Some x) h e rest = refl
      there None h e rest = rest h e

      by : (b : Bool) → AreRising (all_keys (cond {A = Lists} b ((l.0, f l.1) ∷ ls) (l ∷ change_named list f ls))) → stanza_at k (cond {A = Lists} b ((l.0, f l.1) ∷ ls) (l ∷ change_named list f ls)) ≡ stanza_at k (l ∷ ls)
          → (AreRising (all_keys (change_named list f ls)) → is_some (stanza_at k ls) ≡ true → stanza_at k (change_named list f ls) ≡ stanza_at k ls → holder_of k (change_named list f ls) ≡ holder_of k ls)
          → holder_of k (cond {A = Lists} b ((l.0, f l.1) ∷ ls) (l ∷ change_named list f ls)) ≡ holder_of k (l ∷ ls)
      by true s e rest = here (in_slots k l.1) (in_slots k (f l.1)) refl refl s h e
      by false s e rest = there (in_slots k l.1) h e (rest (behind_rises (keys_of l.1) (all_keys (change_named list f ls)) s))

  pub drop_holder : (list : List ℕ) (ls : Lists) → AreRising (all_keys ls) → is_some (stanza_at k ls) ≡ true → stanza_at k (without_name list ls) ≡ stanza_at k ls → holder_of k (without_name list ls) ≡ holder_of k ls
  drop_holder list [] r h e = refl
  drop_holder list (l ∷ ls) r h e = by (bytes_eq list l.0) e (drop_holder list ls (behind_rises (keys_of l.1) (all_keys ls) r))
    where
      here : (a : Option Content) → in_slots k l.1 ≡ a → stanza_at k ls ≡ option_or a (stanza_at k ls) → holder_of k ls ≡ cond (is_some a) (Some l.0) (holder_of k ls)
      here None p e = refl
      here (Some x) p e = absurd (twice k l ls r (ap is_some p) (ap is_some e))

      there : (a : Option Content) → is_some (option_or a (stanza_at k ls)) ≡ true → option_or a (stanza_at k (without_name list ls)) ≡ option_or a (stanza_at k ls)
          → (is_some (stanza_at k ls) ≡ true → stanza_at k (without_name list ls) ≡ stanza_at k ls → holder_of k (without_name list ls) ≡ holder_of k ls)
          → cond (is_some a) (Some l.0) (holder_of k (without_name list ls)) ≡ cond (is_some a) (Some l.0) (holder_of k ls)
      there (Some x) h e rest = refl
      there None h e rest = rest h e

      by : (b : Bool) → stanza_at k (cond {A = Lists} b ls (l ∷ without_name list ls)) ≡ stanza_at k (l ∷ ls)
          → (is_some (stanza_at k ls) ≡ true → stanza_at k (without_name list ls) ≡ stanza_at k ls → holder_of k (without_name list ls) ≡ holder_of k ls)
          → holder_of k (cond {A = Lists} b ls (l ∷ without_name list ls)) ≡ holder_of k (l ∷ ls)
      by true e rest = here (in_slots k l.1) refl e
      by false e rest = there (in_slots k l.1) h e rest

  pub add_holder : (ls new : Lists) → is_some (stanza_at k ls) ≡ true → holder_of k (ls ++ new) ≡ holder_of k ls
  add_holder [] new h = absurd (false≢true h)
  add_holder (l ∷ ls) new h = by (in_slots k l.1) h (add_holder ls new)
    where
      by : (a : Option Content) → is_some (option_or a (stanza_at k ls)) ≡ true → (is_some (stanza_at k ls) ≡ true → holder_of k (ls ++ new) ≡ holder_of k ls) → cond (is_some a) (Some l.0) (holder_of k (ls ++ new)) ≡ cond (is_some a) (Some l.0) (holder_of k ls)
      by (Some x) h rest = refl
      by None h rest = rest h

-- ---- what the priority of a list rests on

abbrev pub sort_of : StanzaList → ListKind × ListClass
sort_of l = (l.kind, l.class)

abbrev pub sort_named : List ℕ → Lists → Option (ListKind × ListClass)
sort_named name ls = option_map sort_of (at_name name (stanza_lists ls))

abbrev priority_by : List ℕ → World → ListKind × ListClass → ℤ
priority_by name w sort = cond (is_target w.target name sort.0) (pos 990) (unwrap_or (general_pin name w.pins) (own_priority sort.0 sort.1))

pub priority_sorted : (name : List ℕ) (w : World) (others : Lists) → sort_named name others ≡ sort_named name w.lists → list_priority name (with_lists others w) ≡ list_priority name w
priority_sorted name w others e = by (at_name name (stanza_lists others)) ∙ ap (option_map (priority_by name w)) e ∙ sym (by (at_name name (stanza_lists w.lists)))
  where
    by : (o : Option StanzaList) → option_map (priority_of_list name w) o ≡ option_map (priority_by name w) (option_map sort_of o)
    by None = refl
    by (Some l) = refl

pub change_sort : (f : KeyedList → KeyedList) → ((l : KeyedList) → sort_of (stanza_list (f l)) ≡ sort_of (stanza_list l)) → (list name : List ℕ) (ls : Lists) → sort_named name (change_named list f ls) ≡ sort_named name ls
change_sort f same list name [] = refl
change_sort f same list name (l ∷ ls) = by (bytes_eq list l.0) (change_sort f same list name ls)
  where
    here : (b : Bool) → option_map sort_of (cond b (Some (stanza_list (f l.1))) (at_name name (stanza_lists ls))) ≡ option_map sort_of (cond b (Some (stanza_list l.1)) (at_name name (stanza_lists ls)))
    here true = ap (λ s. Some s) (same l.1)
    here false = refl

    there : (b : Bool) → sort_named name (change_named list f ls) ≡ sort_named name ls → option_map sort_of (cond b (Some (stanza_list l.1)) (at_name name (stanza_lists (change_named list f ls)))) ≡ option_map sort_of (cond b (Some (stanza_list l.1)) (at_name name (stanza_lists ls)))
    there true e = refl
    there false e = e

    by : (b : Bool) → sort_named name (change_named list f ls) ≡ sort_named name ls → sort_named name (cond {A = Lists} b ((l.0, f l.1) ∷ ls) (l ∷ change_named list f ls)) ≡ sort_named name (l ∷ ls)
    by true e = here (bytes_eq name l.0)
    by false e = there (bytes_eq name l.0) e

-- ---- a name that holds a key

same_bytes : (a b : List ℕ) → a ≡ b → bytes_eq b a ≡ true
same_bytes a b e = (bytes_eq-Decides b a).1 (sym e)

other_bytes : (list name l : List ℕ) → bytes_eq list name ≡ false → bytes_eq list l ≡ true → bytes_eq name l ≡ false
other_bytes list name l e h = by (bytes_eq name l) refl
  where
    by : (b : Bool) → bytes_eq name l ≡ b → b ≡ false
    by true is = absurd (false≢true (sym e ∙ same_bytes name list ((bytes_eq-Decides name l).0 is ∙ sym ((bytes_eq-Decides list l).0 h))))
    by false is = refl

module _ (k : StanzaKey) where
  pub add_sort : (name : List ℕ) (ls new : Lists) → holder_of k ls ≡ Some name → sort_named name (ls ++ new) ≡ sort_named name ls
  add_sort name [] new h = cc
  add_sort name (l ∷ ls) new h = by (bytes_eq name l.0) refl (is_some (in_slots k l.1)) h (add_sort name ls new)
    where
      by : (b : Bool) → bytes_eq name l.0 ≡ b → (a : Bool) → cond a (Some l.0) (holder_of k ls) ≡ Some name → (holder_of k ls ≡ Some name → sort_named name (ls ++ new) ≡ sort_named name ls)
          → option_map sort_of (cond b (Some (stanza_list l.1)) (at_name name (stanza_lists (ls ++ new)))) ≡ option_map sort_of (cond b (Some (stanza_list l.1)) (at_name name (stanza_lists ls)))
      by true is a h rest = refl
      by false is true h rest = absurd (false≢true (sym is ∙ same_bytes l.0 name (ap (λ o. unwrap_or o name) h)))
      by false is false h rest = rest h

  pub not_holder : (name : List ℕ) (ls : Lists) → AllByRecursion (λ y. bytes_eq name y ≡ false) (names_of ls) → holder_of k ls ≡ Some name → ⊥
  not_holder name [] a h = cc
  not_holder name (l ∷ ls) a h = by (is_some (in_slots k l.1)) h (not_holder name ls a.1)
    where
      by : (b : Bool) → cond b (Some l.0) (holder_of k ls) ≡ Some name → (holder_of k ls ≡ Some name → ⊥) → ⊥
      by true h rest = false≢true (sym a.0 ∙ same_bytes l.0 name (ap (λ o. unwrap_or o name) h))
      by false h rest = rest h

  pub key_in_list : (l : KeyedList) → is_some (in_slots k l) ≡ true → has_key k (keys_of l) ≡ true
  key_in_list l h = ap (has_key k) (sym (placed_rows l.serial l.slots)) ∙ found_behind k [] (entries_in l) (ap is_some (found_in_list k l) ∙ h)

pub held_in_list : (k : StanzaKey) (list : List ℕ) (ls : Lists) → IsDistinct bytes_eq (names_of ls) → holder_of k ls ≡ Some list → has_key k (all_in list ls) ≡ true
unfolding IsDistinct
held_in_list k list [] d h = cc
held_in_list k list (l ∷ ls) d h = by (bytes_eq list l.0) refl (is_some (in_slots k l.1)) refl h (held_in_list k list ls d.1)
  where
    by : (b : Bool) → bytes_eq list l.0 ≡ b → (a : Bool) → is_some (in_slots k l.1) ≡ a → cond a (Some l.0) (holder_of k ls) ≡ Some list → (holder_of k ls ≡ Some list → has_key k (all_in list ls) ≡ true)
        → has_key k (option_map_or keys_of (cond b (Some l.1) (at_name list ls)) []) ≡ true
    by true is true held h rest = key_in_list k l.1 held
    by true is false held h rest = absurd (not_holder k list ls (subst (λ z. AllByRecursion (λ y. bytes_eq z y ≡ false) (names_of ls)) (sym ((bytes_eq-Decides list l.0).0 is)) d.0) h)
    by false is true held h rest = absurd (false≢true (sym is ∙ same_bytes l.0 list (ap (λ o. unwrap_or o list) h)))
    by false is false held h rest = rest h

pub drop_sort : (list name : List ℕ) (ls : Lists) → bytes_eq list name ≡ false → sort_named name (without_name list ls) ≡ sort_named name ls
drop_sort list name [] e = refl
drop_sort list name (l ∷ ls) e = by (bytes_eq list l.0) refl (drop_sort list name ls e)
  where
    there : (b : Bool) → sort_named name (without_name list ls) ≡ sort_named name ls → option_map sort_of (cond b (Some (stanza_list l.1)) (at_name name (stanza_lists (without_name list ls)))) ≡ option_map sort_of (cond b (Some (stanza_list l.1)) (at_name name (stanza_lists ls)))
    there true e = refl
    there false e = e

    by : (b : Bool) → bytes_eq list l.0 ≡ b → sort_named name (without_name list ls) ≡ sort_named name ls → sort_named name (cond {A = Lists} b ls (l ∷ without_name list ls)) ≡ sort_named name (l ∷ ls)
    by true is rest = ap (λ b. option_map sort_of (cond b (Some (stanza_list l.1)) (at_name name (stanza_lists ls)))) (sym (other_bytes list name l.0 e is))
    by false is rest = there (bytes_eq name l.0) rest
