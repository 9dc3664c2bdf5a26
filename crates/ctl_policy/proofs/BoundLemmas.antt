-- No row of a name that no specific pin matches has a priority above those of all lists.
use Rattle.std.proofs.Common.{◌≡◌, ◌≤ℤ◌, ℕ, ℤ, pos, Bool, true, false, cond, List, [], ◌∷◌, map, Option, None, Some, IfSome, OnSome, option_map, unwrap_or, refl, sym, subst, arith}
use Rattle.std.specs.Bool.{OnFalse}
use Rattle.std.specs.Int.{int_max}
use Rattle.std.specs.Str.{bytes_eq}
use Rattle.std.proofs.lemmas.Int.{ints}
use Rattle.std.proofs.lemmas.Slice.Eq.{bytes_eq-Decides}
use Rattle.ctl_store.specs.declared.stanza_key.StanzaKey.{StanzaKey}
use Rattle.ctl_store.specs.Keys.{holder_of}
use Rattle.ctl_store.specs.Named.{at_name}
use Rattle.ctl_store.specs.State.{StanzaList, shown_lists}
use Rattle.ctl_store.specs.Store.{Held, keyed_of, state_of}
use Rattle.ctl_policy.specs.Priority.{PinsNoRow, World, greatest, greatest_with, priority_found, priority_of_list, row_priority, source_priorities, world_of}
use Rattle.ctl_policy.specs.Inside.RowBound.{greatest_of_lists, shown_priority}

up_to : (a b c : ℤ) → a ≤ℤ b → b ≤ℤ c → a ≤ℤ c
up_to a b c h k = omega (arith, ints, h, k)

-- the larger of two is as great as each, and no greater than what both aren't above
as_first : (a b : ℤ) → a ≤ℤ int_max a b
as_first a b = grind (arith, ints)

as_second : (a b : ℤ) → b ≤ℤ int_max a b
as_second a b = grind (arith, ints)

within : (a b c : ℤ) → a ≤ℤ c → b ≤ℤ c → int_max a b ≤ℤ c
within a b c h k = grind (arith, ints)

-- the greatest of some is as great as the first
as_one : (p : ℤ) (ps : List ℤ) → p ≤ℤ greatest_with p ps
as_one p [] = omega (arith, ints)
as_one p (q ∷ ps) = up_to p (int_max p q) (greatest_with (int_max p q) ps) (as_first p q) (as_one (int_max p q) ps)

-- the list of a name is one of all
list_within : (w : World) (list : List ℕ) (p : ℤ) (ls : List (List ℕ × StanzaList)) → pos 0 ≤ℤ p
    → unwrap_or (option_map (priority_of_list list w) (at_name list ls)) (pos 0) ≤ℤ greatest_with p (map (shown_priority w) (shown_lists ls))
list_within w list p [] h = h
list_within w list p (l ∷ ls) h = by (bytes_eq list l.0) refl (list_within w list (int_max p this) ls (up_to (pos 0) p (int_max p this) h (as_first p this)))
  where
    this : ℤ
    this = priority_of_list l.0 w l.1

    others : List ℤ
    others = map (shown_priority w) (shown_lists ls)

    by : (b : Bool) → bytes_eq list l.0 ≡ b → unwrap_or (option_map (priority_of_list list w) (at_name list ls)) (pos 0) ≤ℤ greatest_with (int_max p this) others
        → unwrap_or (option_map (priority_of_list list w) (cond b (Some l.1) (at_name list ls))) (pos 0) ≤ℤ greatest_with (int_max p this) others
    by true is k = subst (λ z. priority_of_list z w l.1 ≤ℤ greatest_with (int_max p this) others) (sym ((bytes_eq-Decides list l.0).0 is))
        (up_to this (int_max p this) (greatest_with (int_max p this) others) (as_second p this) (as_one (int_max p this) others))
    by false is k = k

module _ (h : Held) where
  source_within : (found : Option (List ℕ)) → priority_found (world_of h) found ≤ℤ greatest_of_lists h
  source_within None = as_one (pos 0) (map (shown_priority (world_of h)) (shown_lists (state_of h).lists))
  source_within (Some list) = list_within (world_of h) list (pos 0) (state_of h).lists (omega (arith, ints))

  others_within : (p : ℤ) (keys : List StanzaKey) → p ≤ℤ greatest_of_lists h → greatest_with p (source_priorities (world_of h) keys) ≤ℤ greatest_of_lists h
  others_within p [] le = le
  others_within p (k ∷ keys) le =
      let this = priority_found (world_of h) (holder_of k (keyed_of h).lists) in
      others_within (int_max p this) keys (within p this (greatest_of_lists h) le (source_within (holder_of k (keyed_of h).lists)))

  sources_within : (keys : List StanzaKey) → greatest (source_priorities (world_of h) keys) ≤ℤ greatest_of_lists h
  sources_within [] = source_within None
  sources_within (k ∷ keys) = others_within (priority_found (world_of h) (holder_of k (keyed_of h).lists)) keys (source_within (holder_of k (keyed_of h).lists))

  pub rows_within : (name : List ℕ) (pinned : Bool) (bound : Option ℤ) → OnFalse pinned (PinsNoRow name (keyed_of h).lists (world_of h).pins) → OnSome bound (pinned ≡ false) → IfSome bound (λ b. b ≡ greatest_of_lists h)
      → IfSome bound (λ b. (keys : List StanzaKey) → row_priority name (world_of h) keys ≤ℤ b)
  rows_within name pinned None none not is = tt
  rows_within name true (Some b) none not is = cc
  rows_within name false (Some b) none not is = λ keys.
      subst (λ o. unwrap_or o (greatest (source_priorities (world_of h) keys)) ≤ℤ b) (sym (none keys)) (subst (λ z. greatest (source_priorities (world_of h) keys) ≤ℤ z) (sym is) (sources_within keys))
