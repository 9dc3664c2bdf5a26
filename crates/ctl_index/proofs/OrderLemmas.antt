-- Names in order.
use Rattle.std.proofs.Common.{◌≡◌, ◌∙◌, ℕ, Bool, true, false, ◌||◌, List, [], ◌∷◌, refl, sym, ap}
use Rattle.std.specs.BTreeSet.{insert_key}
use Rattle.std.specs.Cmp.Lexicographic.{slice_cmp, nat_list_cmp_total}
use Rattle.std.specs.List.{AllByRecursion, list_any}
use Rattle.std.specs.List.Sorted.{IsStrictlySortedBy}
use Rattle.std.specs.Ordering.{match_ordering, ordering_reverse, is_eq, nat_cmp}
use Rattle.std.specs.declared.cmp.Ordering.{Ordering}
use Rattle.std.specs.declared.cmp.Ordering.TheVariants.{Less, Equal, Greater}
use Rattle.std.specs.Str.{bytes_eq}
use Rattle.std.proofs.lemmas.Map.Lookups.{btree_set_from_contains, exact_bytes}
use Rattle.std.proofs.lemmas.Map.Text.{is_eq-slice_cmp}
use Rattle.std.proofs.lemmas.Slice.Eq.{bytes_eq-Decides}
use Rattle.ctl_index.specs.Names.{in_order}

-- whether a name is among names
abbrev pub is_among : List (List ℕ) → List ℕ → Bool
is_among names q = list_any (bytes_eq q) names

-- ---- a name that is put in keeps the order

pick : {A : Type 0} (P : A → Type 0) (o : Ordering) (a b c : A) → P a → P b → P c → P (match_ordering o a b c)
pick P Less a b c p q r = p
pick P Equal a b c p q r = q
pick P Greater a b c p q r = r

all_insert : (x k : List ℕ) (ks : List (List ℕ)) → slice_cmp nat_cmp x k ≡ Less → AllByRecursion (λ y. slice_cmp nat_cmp x y ≡ Less) ks →
    AllByRecursion (λ y. slice_cmp nat_cmp x y ≡ Less) (insert_key (slice_cmp nat_cmp) ks k)
all_insert x k [] below all = (below, tt)
all_insert x k (y ∷ ys) below all =
    pick (λ zs. AllByRecursion (λ y. slice_cmp nat_cmp x y ≡ Less) zs) (slice_cmp nat_cmp k y) (k ∷ y ∷ ys) (y ∷ ys) (y ∷ insert_key (slice_cmp nat_cmp) ys k)
    (below, all) all (all.0, all_insert x k ys below all.1)

all_further : (k y : List ℕ) (ks : List (List ℕ)) → slice_cmp nat_cmp k y ≡ Less → AllByRecursion (λ z. slice_cmp nat_cmp y z ≡ Less) ks → AllByRecursion (λ z. slice_cmp nat_cmp k z ≡ Less) ks
all_further k y [] below all = tt
all_further k y (z ∷ zs) below all = (nat_list_cmp_total.trans k y z below all.0, all_further k y zs below all.1)

sorted_at : (k y : List ℕ) (ys : List (List ℕ)) → IsStrictlySortedBy (slice_cmp nat_cmp) (insert_key (slice_cmp nat_cmp) ys k) → (o : Ordering) → slice_cmp nat_cmp k y ≡ o →
    IsStrictlySortedBy (slice_cmp nat_cmp) (y ∷ ys) → IsStrictlySortedBy (slice_cmp nat_cmp) (match_ordering o (k ∷ y ∷ ys) (y ∷ ys) (y ∷ insert_key (slice_cmp nat_cmp) ys k))
unfolding IsStrictlySortedBy
sorted_at k y ys inner Less e sorted = ((e, all_further k y ys e sorted.0), sorted)
sorted_at k y ys inner Equal e sorted = sorted
sorted_at k y ys inner Greater e sorted = (all_insert y k ys (nat_list_cmp_total.antisymm y k ∙ ap ordering_reverse e) sorted.0, inner)

sorted_insert : (k : List ℕ) (ks : List (List ℕ)) → IsStrictlySortedBy (slice_cmp nat_cmp) ks → IsStrictlySortedBy (slice_cmp nat_cmp) (insert_key (slice_cmp nat_cmp) ks k)
unfolding IsStrictlySortedBy
sorted_insert k [] sorted = (tt, tt)
sorted_insert k (y ∷ ys) sorted = sorted_at k y ys (sorted_insert k ys sorted.1) (slice_cmp nat_cmp k y) refl sorted

pub in_order_sorted : (names : List (List ℕ)) → IsStrictlySortedBy (slice_cmp nat_cmp) (in_order names)
unfolding in_order IsStrictlySortedBy
in_order_sorted [] = tt
in_order_sorted (name ∷ names) = sorted_insert name (in_order names) (in_order_sorted names)

-- ---- which names are there

or_twice : (a b : Bool) → (a || b) ≡ (a || (a || b))
or_twice true b = refl
or_twice false b = refl

or_swap : (a b c : Bool) → (a || (b || c)) ≡ (b || (a || c))
or_swap true true c = refl
or_swap true false c = refl
or_swap false b c = refl

same_name : (a b : List ℕ) → slice_cmp nat_cmp a b ≡ Equal → a ≡ b
same_name a b e = (bytes_eq-Decides a b).0 (sym (is_eq-slice_cmp a b) ∙ ap is_eq e)

among_at : (other name first : List ℕ) (names : List (List ℕ)) (o : Ordering) → slice_cmp nat_cmp name first ≡ o →
    is_among (insert_key (slice_cmp nat_cmp) names name) other ≡ (bytes_eq other name || is_among names other) →
    is_among (match_ordering o (name ∷ first ∷ names) (first ∷ names) (first ∷ insert_key (slice_cmp nat_cmp) names name)) other
    ≡ (bytes_eq other name || (bytes_eq other first || is_among names other))
among_at other name first names Less e rest = refl
among_at other name first names Equal e rest =
    ap (λ n. bytes_eq other n || is_among names other) (sym (same_name name first e)) ∙ or_twice (bytes_eq other name) (is_among names other)
    ∙ ap (λ n. bytes_eq other name || (bytes_eq other n || is_among names other)) (same_name name first e)
among_at other name first names Greater e rest = ap (λ t. bytes_eq other first || t) rest ∙ or_swap (bytes_eq other first) (bytes_eq other name) (is_among names other)

among_insert : (other name : List ℕ) (names : List (List ℕ)) → is_among (insert_key (slice_cmp nat_cmp) names name) other ≡ (bytes_eq other name || is_among names other)
among_insert other name [] = refl
among_insert other name (first ∷ names) = among_at other name first names (slice_cmp nat_cmp name first) refl (among_insert other name names)

pub among_in_order : (other : List ℕ) (names : List (List ℕ)) → is_among (in_order names) other ≡ is_among names other
unfolding in_order
among_in_order other [] = refl
among_in_order other (name ∷ names) = among_insert other name (in_order names) ∙ ap (λ t. bytes_eq other name || t) (among_in_order other names)

-- ---- lists in order with the same names are one list

compared : (q : List ℕ) (names : List (List ℕ)) → list_any (λ k. is_eq (slice_cmp nat_cmp q k)) names ≡ is_among names q
compared q [] = refl
compared q (name ∷ names) = (λ i. is_eq-slice_cmp q name i || compared q names i)

pub one_in_order : (xs ys : List (List ℕ)) → IsStrictlySortedBy (slice_cmp nat_cmp) xs → IsStrictlySortedBy (slice_cmp nat_cmp) ys → ((q : List ℕ) → is_among xs q ≡ is_among ys q) → xs ≡ ys
one_in_order xs ys sx sy same =
    btree_set_from_contains nat_list_cmp_total (record { keys = xs }) (record { keys = ys }) sx sy (λ q. compared q xs ∙ same q ∙ sym (compared q ys)) exact_bytes

-- names in order that are those of a list
pub is_in_order : (names list : List (List ℕ)) → IsStrictlySortedBy (slice_cmp nat_cmp) names → ((q : List ℕ) → is_among names q ≡ is_among list q) → names ≡ in_order list
is_in_order names list sorted same = one_in_order names (in_order list) sorted (in_order_sorted list) (λ q. same q ∙ sym (among_in_order q list))
