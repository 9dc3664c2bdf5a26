-- The clauses at 0, over their places.
use Rattle.std.proofs.Common.{◌≡◌, Bool, true, false, cond, Option, None, Some, refl, ap, sym, ◌∙◌, true≢false, List, [], ◌∷◌}
use Rattle.std.specs.Prelude.{◌||◌}
use Rattle.std.specs.Option.{option_map_or}
use Rattle.std.specs.List.{All, AllByRecursion, list_any}
use Rattle.std.specs.List.Sorted.{IsStrictlySortedBy}
use Rattle.std.specs.Map.{lookup, keys_of}
use Rattle.std.specs.BTreeMap.{BTreeMap, get, keys, IsOrdered}
use Rattle.std.specs.BTreeSet.{contains}
use Rattle.std.specs.Ordering.{is_eq, is_ge, is_lt}
use Rattle.std.specs.declared.cmp.Ordering.{Ordering}
use Rattle.std.specs.declared.cmp.Ordering.TheVariants.{Less, Equal, Greater}
use Rattle.std.proofs.lemmas.List.Elements.{recursion_from_All}
use Rattle.std.proofs.lemmas.Map.Keys.{sorted_head, sorted_tail}
use Rattle.ctl_index.specs.declared.keys.ClauseKey.{ClauseKey}
use Rattle.ctl_index.specs.Clauses.{clause_cmp}
use Rattle.ctl_index.specs.Inside.UnmetSet.{unmet_keys, unmet_of}
use Rattle.ctl_index.proofs.CounterLemmas.{same_clause}

-- a clause below all of some is none of them
none_below : (k : ClauseKey) (es : List (ClauseKey × Bool)) → AllByRecursion (λ q. clause_cmp k q ≡ Less) (keys_of es) → list_any (λ q. is_eq (clause_cmp k q)) (unmet_keys es) ≡ false
none_below k [] h = refl
none_below k (e ∷ es) h = by e.1 (none_below k es h.1)
  where
    by : (b : Bool) → list_any (λ q. is_eq (clause_cmp k q)) (unmet_keys es) ≡ false → list_any (λ q. is_eq (clause_cmp k q)) (cond b (e.0 ∷ unmet_keys es) (unmet_keys es)) ≡ false
    by true rest = ap (λ o. is_eq o || list_any (λ q. is_eq (clause_cmp k q)) (unmet_keys es)) h.0 ∙ rest
    by false rest = rest

among : (k : ClauseKey) (es : List (ClauseKey × Bool)) → IsStrictlySortedBy clause_cmp (keys_of es) → list_any (λ q. is_eq (clause_cmp k q)) (unmet_keys es) ≡ option_map_or (λ b. b) (lookup (λ q. is_eq (clause_cmp k q)) es) false
among k [] h = refl
among k (e ∷ es) h = by (among k es (sorted_tail clause_cmp e.0 (keys_of es) h)) e.1 (is_eq (clause_cmp k e.0)) refl
  where
    none : is_eq (clause_cmp k e.0) ≡ true → list_any (λ q. is_eq (clause_cmp k q)) (unmet_keys es) ≡ false
    none tie = ap (λ a. list_any (λ q. is_eq (clause_cmp a q)) (unmet_keys es)) (same_clause k e.0 tie) ∙ none_below e.0 es (sorted_head clause_cmp e.0 (keys_of es) h)

    by : list_any (λ q. is_eq (clause_cmp k q)) (unmet_keys es) ≡ option_map_or (λ b. b) (lookup (λ q. is_eq (clause_cmp k q)) es) false
        → (b t : Bool) → is_eq (clause_cmp k e.0) ≡ t
        → list_any (λ q. is_eq (clause_cmp k q)) (cond b (e.0 ∷ unmet_keys es) (unmet_keys es)) ≡ option_map_or (λ c. c) (cond t (Some b) (lookup (λ q. is_eq (clause_cmp k q)) es)) false
    by rest true true tie = ap (λ c. c || list_any (λ q. is_eq (clause_cmp k q)) (unmet_keys es)) tie
    by rest true false tie = ap (λ c. c || list_any (λ q. is_eq (clause_cmp k q)) (unmet_keys es)) tie ∙ rest
    by rest false true tie = none tie
    by rest false false tie = rest

-- a clause is at 0 where its place says so
pub contains_place : (m : BTreeMap ClauseKey Bool) → IsOrdered clause_cmp m → (k : ClauseKey) → contains clause_cmp (unmet_of m) k ≡ option_map_or (λ b. b) (get clause_cmp m k) false
contains_place m h k = among k m.entries h

-- one place is written
pub place_written : (m n : BTreeMap ClauseKey Bool) (a : ClauseKey) (o : Option Bool) → IsOrdered clause_cmp m → IsOrdered clause_cmp n
    → ((k : ClauseKey) → get clause_cmp n k ≡ cond (is_eq (clause_cmp a k)) o (get clause_cmp m k))
    → (k : ClauseKey) → contains clause_cmp (unmet_of n) k ≡ cond (is_eq (clause_cmp a k)) (option_map_or (λ b. b) o false) (contains clause_cmp (unmet_of m) k)
place_written m n a o was now here k =
    contains_place n now k ∙ ap (λ p. option_map_or (λ b. b) p false) (here k) ∙ by (is_eq (clause_cmp a k)) ∙ ap (cond (is_eq (clause_cmp a k)) (option_map_or (λ b. b) o false)) (sym (contains_place m was k))
  where
    by : (t : Bool) → option_map_or (λ b. b) (cond t o (get clause_cmp m k)) false ≡ cond t (option_map_or (λ b. b) o false) (option_map_or (λ b. b) (get clause_cmp m k) false)
    by true = refl
    by false = refl

-- a clause that has no place is not at 0
pub no_place : (m : BTreeMap ClauseKey Bool) (a : ClauseKey) → IsOrdered clause_cmp m → get clause_cmp m a ≡ None
    → (k : ClauseKey) → contains clause_cmp (unmet_of m) k ≡ cond (is_eq (clause_cmp a k)) false (contains clause_cmp (unmet_of m) k)
no_place m a was none k = by (is_eq (clause_cmp a k)) refl
  where
    by : (t : Bool) → is_eq (clause_cmp a k) ≡ t → contains clause_cmp (unmet_of m) k ≡ cond t false (contains clause_cmp (unmet_of m) k)
    by true tie = ap (contains clause_cmp (unmet_of m)) (sym (same_clause a k tie)) ∙ contains_place m was a ∙ ap (λ p. option_map_or (λ b. b) p false) none
    by false tie = refl

-- nothing is both up to and above the same
not_both : (o : Ordering) → is_lt o ≡ false → is_ge o ≡ false → ⊥
not_both Less up above = true≢false up
not_both Equal up above = true≢false above
not_both Greater up above = true≢false above

-- a clause above the last place is not at 0
pub above_last : (m : BTreeMap ClauseKey Bool) (last a : ClauseKey) → All (λ q. is_lt (clause_cmp last q) ≡ false) (keys m) → is_ge (clause_cmp last a) ≡ false → contains clause_cmp (unmet_of m) a ≡ false
above_last m last a all above = go m.entries (recursion_from_All (λ q. is_lt (clause_cmp last q) ≡ false) (keys m) all)
  where
    go : (es : List (ClauseKey × Bool)) → AllByRecursion (λ q. is_lt (clause_cmp last q) ≡ false) (keys_of es) → list_any (λ q. is_eq (clause_cmp a q)) (unmet_keys es) ≡ false
    go [] h = refl
    go (e ∷ es) h = by (go es h.1) e.1 (is_eq (clause_cmp a e.0)) refl
      where
        by : list_any (λ q. is_eq (clause_cmp a q)) (unmet_keys es) ≡ false → (b t : Bool) → is_eq (clause_cmp a e.0) ≡ t → list_any (λ q. is_eq (clause_cmp a q)) (cond b (e.0 ∷ unmet_keys es) (unmet_keys es)) ≡ false
        by rest false t tie = rest
        by rest true true tie = absurd (not_both (clause_cmp last e.0) h.0 (ap (λ q. is_ge (clause_cmp last q)) (sym (same_clause a e.0 tie)) ∙ above))
        by rest true false tie = ap (λ c. c || list_any (λ q. is_eq (clause_cmp a q)) (unmet_keys es)) tie ∙ rest

-- those that are at 0 are in the order of all that have a place
all_unmet : (P : ClauseKey → Type 0) (es : List (ClauseKey × Bool)) → AllByRecursion P (keys_of es) → AllByRecursion P (unmet_keys es)
all_unmet P [] h = tt
all_unmet P (e ∷ es) h = by (all_unmet P es h.1) e.1
  where
    by : AllByRecursion P (unmet_keys es) → (b : Bool) → AllByRecursion P (cond b (e.0 ∷ unmet_keys es) (unmet_keys es))
    by rest true = (h.0, rest)
    by rest false = rest

pub unmet_in_order : (es : List (ClauseKey × Bool)) → IsStrictlySortedBy clause_cmp (keys_of es) → IsStrictlySortedBy clause_cmp (unmet_keys es)
unfolding IsStrictlySortedBy
unmet_in_order [] h = tt
unmet_in_order (e ∷ es) h = by (unmet_in_order es h.1) e.1
  where
    by : IsStrictlySortedBy clause_cmp (unmet_keys es) → (b : Bool) → IsStrictlySortedBy clause_cmp (cond b (e.0 ∷ unmet_keys es) (unmet_keys es))
    by rest true = (all_unmet (λ q. clause_cmp e.0 q ≡ Less) es h.0, rest)
    by rest false = rest
