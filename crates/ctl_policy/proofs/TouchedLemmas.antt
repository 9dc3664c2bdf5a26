-- An accepted edit leaves names that it doesn't touch.
use Rattle.std.proofs.Common.{◌≡◌, ◌⊎◌, inl, inr, ℕ, Bool, pos, true, false, List, [], ◌∷◌, ◌++◌, Option, None, Some, is_some, unwrap_or, refl, ap, sym, subst, ◌∙◌}
use Rattle.std.specs.Str.{bytes_eq}
use Rattle.std.specs.List.{IsDistinct}
use Rattle.std.specs.Map.{keys_of as names_of}
use Rattle.std.proofs.lemmas.Slice.Eq.{bytes_eq-Decides}
use Rattle.ctl_stanza.specs.declared.list_kind.ListKind.{ListKind}
use Rattle.ctl_stanza.specs.Content.{Content}
use Rattle.ctl_store.specs.declared.list_class.ListClass.{ListClass}
use Rattle.ctl_store.specs.declared.stanza_key.StanzaKey.{StanzaKey}
use Rattle.ctl_store.specs.Named.{change_named, without_name}
use Rattle.ctl_store.specs.Edits.{Edit, AddList, DropList, Put, Remove}
use Rattle.ctl_store.specs.Keys.{KeyedList, stanza_at, stanza_lists, holder_of, all_in, all_keys, AreRising, keyed_after, put_keyed, remove_keyed, removed_of, added_of, list_of_stanzas}
use Rattle.ctl_store.specs.Store.{Held, keyed_of}
use Rattle.ctl_policy.specs.Rows.{Lists}
use Rattle.ctl_policy.specs.Priority.{World, world_of, priority_found}
use Rattle.ctl_policy.specs.Laws.{Stays, with_lists, version_found, IsUntouched, world_after}
use Rattle.ctl_policy.specs.Touched.{HasNoneOf, LeavesStanzas, IsAccepted}
use Rattle.ctl_policy.proofs.TouchLemmas.{stanza_others}
use Rattle.ctl_policy.proofs.StepLemmas.{untouched}
use Rattle.ctl_policy.proofs.StepListLemmas.{change_holder, drop_holder, add_holder, sort_named, priority_sorted, change_sort, add_sort, drop_sort, held_in_list}

-- ---- live stanzas that stay

is_there : (q : List ℕ) (o : Option Content) → (version_found q o ≡ None → ⊥) → is_some o ≡ true
is_there q None h = absurd (h refl)
is_there q (Some x) h = refl

same_found : (q : List ℕ) (before after : Lists) (k : StanzaKey) → (version_found q (stanza_at k before) ≡ None → ⊥)
    → (stanza_at k after ≡ stanza_at k before) ⊎ ((version_found q (stanza_at k before) ≡ None) × (version_found q (stanza_at k after) ≡ None)) → stanza_at k after ≡ stanza_at k before
same_found q before after k h (inl e) = e
same_found q before after k h (inr e) = absurd (h e.0)

priority_same : (w : World) (others : Lists) (o : Option (List ℕ)) → ((name : List ℕ) → o ≡ Some name → sort_named name others ≡ sort_named name w.lists) → priority_found (with_lists others w) o ≡ priority_found w o
priority_same w others None h = refl
priority_same w others (Some name) h = ap (λ r. unwrap_or r (pos 0)) (priority_sorted name w others (h name refl))

module _ (q : List ℕ) (w : World) (others : Lists) (rising : AreRising (all_keys w.lists)) (rising_after : AreRising (all_keys others)) (s : IsUntouched q w.lists others) where
  -- what stays of a name, where the list of each key that holds one of its live stanzas keeps its name, kind and class
  by_keys : ((k : StanzaKey) → (version_found q (stanza_at k w.lists) ≡ None → ⊥) → is_some (stanza_at k w.lists) ≡ true → stanza_at k others ≡ stanza_at k w.lists → holder_of k others ≡ holder_of k w.lists)
      → ((k : StanzaKey) → (version_found q (stanza_at k w.lists) ≡ None → ⊥) → (name : List ℕ) → holder_of k w.lists ≡ Some name → sort_named name others ≡ sort_named name w.lists) → Stays q w (with_lists others w)
  by_keys names sorts = stanza_others q w others
      (record {
        rising = rising;
        rising_after = rising_after;
        names = λ k live. names k live (is_there q (stanza_at k w.lists) live) (same_found q w.lists others k live (s k));
        priorities = λ k live. priority_same w others (holder_of k w.lists) (λ name. sorts k live name);
      }) s

-- ---- edits of stanzas and lists

-- the lists of a name change, but not their serials, kinds and classes
module _ (q : List ℕ) (w : World) (rising : AreRising (all_keys w.lists)) where
  pub changed_untouched : (f : KeyedList → KeyedList) → ((l : KeyedList) → (l.kind ≡ (f l).kind) × (l.class ≡ (f l).class)) → (list : List ℕ) → AreRising (all_keys (change_named list f w.lists)) → IsUntouched q w.lists (change_named list f w.lists)
      → Stays q w (with_lists (change_named list f w.lists) w)
  changed_untouched f same list after s = by_keys q w (change_named list f w.lists) rising after s
      (λ k live there e. change_holder k f list w.lists rising after there e)
      (λ k live name h. change_sort f (λ l i. (sym (same l).0 i, sym (same l).1 i)) list name w.lists)

  pub dropped_untouched : (list : List ℕ) → IsDistinct bytes_eq (names_of w.lists) → HasNoneOf q (all_in list w.lists) (λ k. stanza_at k w.lists) → AreRising (all_keys (without_name list w.lists)) → IsUntouched q w.lists (without_name list w.lists)
      → Stays q w (with_lists (without_name list w.lists) w)
  dropped_untouched list distinct gone after s = by_keys q w (without_name list w.lists) rising after s
      (λ k live there e. drop_holder k list w.lists rising there e)
      (λ k live name h. by k live name h (bytes_eq list name) refl)
    where
      by : (k : StanzaKey) → (version_found q (stanza_at k w.lists) ≡ None → ⊥) → (name : List ℕ) → holder_of k w.lists ≡ Some name → (b : Bool) → bytes_eq list name ≡ b → sort_named name (without_name list w.lists) ≡ sort_named name w.lists
      by k live name h true is = absurd (live (gone k (held_in_list k list w.lists distinct (h ∙ ap (λ n. Some n) (sym ((bytes_eq-Decides list name).0 is))))))
      by k live name h false is = drop_sort list name w.lists is

  pub added_untouched : (new : Lists) → AreRising (all_keys (w.lists ++ new)) → IsUntouched q w.lists (w.lists ++ new) → Stays q w (with_lists (w.lists ++ new) w)
  added_untouched new after s = by_keys q w (w.lists ++ new) rising after s
      (λ k live there e. add_holder k w.lists new there)
      (λ k live name h. add_sort k name w.lists new h)

pub names_same : (ls : Lists) → names_of (stanza_lists ls) ≡ names_of ls
names_same [] = refl
names_same (l ∷ ls) = ap (λ names. l.0 ∷ names) (names_same ls)

module _ (h : Held) (q : List ℕ) where
  abbrev before : Lists
  before = (keyed_of h).lists

  abbrev w : World
  w = world_of h

  under_keys : (edit : Edit) → IsAccepted h edit → LeavesStanzas q h edit → IsUntouched q before (keyed_after (keyed_of h) edit).lists
  under_keys edit a leaves = untouched q before (keyed_after (keyed_of h) edit).lists (removed_of (keyed_of h) edit) (added_of (keyed_of h) edit) edit a.change a.come a.comes leaves.gone leaves.come

  pub put_untouched : (list : List ℕ) (x : Content) → IsAccepted h (Put list x) → LeavesStanzas q h (Put list x) → Stays q (world_of h) (world_after h (Put list x))
  put_untouched list x a leaves = changed_untouched q w a.rising (put_keyed x) (λ l. (refl, refl)) list a.change.rises (under_keys (Put list x) a leaves)

  pub remove_untouched : (list name version : List ℕ) → IsAccepted h (Remove list name version) → LeavesStanzas q h (Remove list name version) → Stays q (world_of h) (world_after h (Remove list name version))
  remove_untouched list name version a leaves = changed_untouched q w a.rising (remove_keyed name (Some version)) (λ l. (refl, refl)) list a.change.rises (under_keys (Remove list name version) a leaves)

  pub add_untouched : (list : List ℕ) (kind : ListKind) (class : ListClass) (xs : List Content) → IsAccepted h (AddList list kind class xs) → LeavesStanzas q h (AddList list kind class xs) → Stays q (world_of h) (world_after h (AddList list kind class xs))
  add_untouched list kind class xs a leaves = added_untouched q w a.rising ((list, list_of_stanzas h.next_list kind class xs) ∷ []) a.change.rises (under_keys (AddList list kind class xs) a leaves)

  pub drop_untouched : (list : List ℕ) → IsAccepted h (DropList list) → LeavesStanzas q h (DropList list) → Stays q (world_of h) (world_after h (DropList list))
  drop_untouched list a leaves = dropped_untouched q w a.rising list (subst (λ names. IsDistinct bytes_eq names) (names_same before) a.distinct) leaves.gone a.change.rises (under_keys (DropList list) a leaves)
