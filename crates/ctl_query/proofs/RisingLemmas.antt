-- Names that are gathered one behind another.
use Rattle.std.proofs.Common.{◌≡◌, ◌∙◌, ℕ, Bool, true, false, ◌||◌, suc, ◌+◌, ◌<◌, List, [], ◌∷◌, ◌++◌, length, take, get_or, slice_get, Some, refl, sym, ap, subst, arith, Bor}
use Rattle.std.proofs.lemmas.List.{take_more}
use Rattle.std.specs.List.{AllByRecursion, list_any}
use Rattle.std.specs.List.Sorted.{IsStrictlySortedBy}
use Rattle.std.specs.Cmp.Lexicographic.{slice_cmp}
use Rattle.std.specs.Ordering.{nat_cmp, is_lt}
use Rattle.std.specs.declared.cmp.Ordering.{Ordering}
use Rattle.std.specs.declared.cmp.Ordering.TheVariants.{Less, Equal, Greater}
use Rattle.std.specs.Str.{bytes_eq}
use Rattle.std.proofs.lemmas.Slice.Eq.{bytes_eq-Decides}
use Rattle.std.proofs.lemmas.List.Folds.{list_any-append}
use Rattle.std.specs.Cmp.Lexicographic.{nat_list_cmp_total}
use Rattle.ctl_query.specs.NameSet.{lent_names, is_among}

or_swapped : (a b : Bool) → (a || (b || false)) ≡ (b || a)
or_swapped true true = refl
or_swapped true false = refl
or_swapped false true = refl
or_swapped false false = refl

lent_append : (xs ys : List (Bor (List ℕ))) → lent_names (xs ++ ys) ≡ lent_names xs ++ lent_names ys
lent_append [] ys = refl
lent_append (x ∷ xs) ys = ap (λ zs. x.now ∷ zs) (lent_append xs ys)

-- one name more behind others
pub among_pushed : (other : List ℕ) (names : List (Bor (List ℕ))) (name : Bor (List ℕ)) → is_among (lent_names (names ++ name ∷ [])) other ≡ (bytes_eq other name.now || is_among (lent_names names) other)
among_pushed other names name =
    ap (λ xs. is_among xs other) (lent_append names (name ∷ []))
    ∙ list_any-append (bytes_eq other) (lent_names names) (name.now ∷ [])
    ∙ or_swapped (is_among (lent_names names) other) (bytes_eq other name.now)

-- a name that is there is none more
pub among_there : (other name : List ℕ) (names : List (List ℕ)) → is_among names name ≡ true → is_among names other ≡ (bytes_eq other name || is_among names other)
among_there other name names there = by (bytes_eq other name) refl
  where
    by : (b : Bool) → bytes_eq other name ≡ b → is_among names other ≡ (b || is_among names other)
    by true e = ap (is_among names) ((bytes_eq-Decides other name).0 e) ∙ there
    by false e = refl

-- ---- names that rise

all_further : (k y : List ℕ) (ks : List (List ℕ)) → slice_cmp nat_cmp k y ≡ Less → AllByRecursion (λ z. slice_cmp nat_cmp y z ≡ Less) ks → AllByRecursion (λ z. slice_cmp nat_cmp k z ≡ Less) ks
all_further k y [] below all = tt
all_further k y (z ∷ zs) below all = (nat_list_cmp_total.trans k y z below all.0, all_further k y zs below all.1)

all_with : (k x y : List ℕ) (ks : List (List ℕ)) → slice_cmp nat_cmp x y ≡ Less → AllByRecursion (λ z. slice_cmp nat_cmp k z ≡ Less) (ks ++ x ∷ []) → AllByRecursion (λ z. slice_cmp nat_cmp k z ≡ Less) ((ks ++ x ∷ []) ++ y ∷ [])
all_with k x y [] below all = (all.0, (nat_list_cmp_total.trans k x y all.0 below, tt))
all_with k x y (z ∷ zs) below all = (all.0, all_with k x y zs below all.1)

-- one more behind the last of names that rise
pub rise_behind : (x y : List ℕ) (ks : List (List ℕ)) → slice_cmp nat_cmp x y ≡ Less → IsStrictlySortedBy (slice_cmp nat_cmp) (ks ++ x ∷ []) → IsStrictlySortedBy (slice_cmp nat_cmp) ((ks ++ x ∷ []) ++ y ∷ [])
unfolding IsStrictlySortedBy
rise_behind x y [] below sorted = ((below, tt), (tt, tt))
rise_behind x y (k ∷ ks) below sorted = (all_with k x y ks below sorted.0, rise_behind x y ks below sorted.1)

pub rise_one : (names : List (Bor (List ℕ))) → IsStrictlySortedBy (slice_cmp nat_cmp) (lent_names (take 1 names))
unfolding IsStrictlySortedBy
rise_one [] = tt
rise_one (name ∷ names) = (tt, tt)

-- ---- the names so far

lent_more : (names : List (Bor (List ℕ))) (i : ℕ) (d : Bor (List ℕ)) → i < length names → lent_names (take (i + 1) names) ≡ lent_names (take i names) ++ (get_or names i d).now ∷ []
lent_more names i d h = ap lent_names (take_more names i d h) ∙ lent_append (take i names) (get_or names i d ∷ [])

-- two neighbours, of which the second is the greater
pub rise_more : (names : List (Bor (List ℕ))) (i j : ℕ) (d e : Bor (List ℕ)) → j ≡ i + 1 → j < length names → slice_cmp nat_cmp (get_or names i d).now (get_or names j e).now ≡ Less →
    IsStrictlySortedBy (slice_cmp nat_cmp) (lent_names (take j names)) → IsStrictlySortedBy (slice_cmp nat_cmp) (lent_names (take (j + 1) names))
rise_more names i j d e next h below sorted =
    let here : lent_names (take j names) ≡ lent_names (take i names) ++ (get_or names i d).now ∷ [] = ap (λ n. lent_names (take n names)) next ∙ lent_more names i d (omega arith) in
    subst (IsStrictlySortedBy (slice_cmp nat_cmp)) (sym (lent_more names j e h ∙ ap (λ xs. xs ++ (get_or names j e).now ∷ []) here))
    (rise_behind (get_or names i d).now (get_or names j e).now (lent_names (take i names)) below (subst (IsStrictlySortedBy (slice_cmp nat_cmp)) here sorted))

-- ---- the last name

-- where an element passes that stands at a place, one passes
pub one_at : (p : List ℕ → Bool) (names : List (Bor (List ℕ))) (i : ℕ) (x : Bor (List ℕ)) → slice_get names i ≡ Some x → p x.now ≡ true → list_any p (lent_names names) ≡ true
one_at p [] Prim.Native.Nat.zero x at is = absurd (let z : ⊥ = cc in z)
one_at p [] (suc i) x at is = absurd (let z : ⊥ = cc in z)
one_at p (y ∷ names) Prim.Native.Nat.zero x at is = let same : y ≡ x = cc in ap (λ b. b || list_any p (lent_names names)) (ap (λ (z : Bor (List ℕ)). p z.now) same ∙ is)
one_at p (y ∷ names) (suc i) x at is = true_behind (p y.now) (list_any p (lent_names names)) (one_at p names i x at is)
  where
    true_behind : (a b : Bool) → b ≡ true → (a || b) ≡ true
    true_behind true b e = refl
    true_behind false b e = e

pub less_where : (o : Ordering) → is_lt o ≡ true → o ≡ Less
less_where Less h = refl
less_where Equal h = absurd (let z : ⊥ = cc in z)
less_where Greater h = absurd (let z : ⊥ = cc in z)
