-- Keys in their order: halving finds the place of one.
use Rattle.std.proofs.Common.{◌≡◌, ℕ, zero, suc, ◌<◌, ◌≤◌, Bool, true, false, cond, ◌&&◌, nat_eq, List, [], ◌∷◌, length, get_or, refl, ap, sym, ◌∙◌, arith, Ordering, Less, Equal, Greater}
use Rattle.std.specs.List.{AllByRecursion, insert, remove}
use Rattle.std.specs.List.Sorted.{IsPartitionedBy, IsPartitionPoint}
use Rattle.std.specs.Ordering.{is_lt, is_eq, nat_cmp, ordering_then}
use Rattle.std.specs.Cmp.{IsTotalOrder}
use Rattle.std.proofs.lemmas.Cmp.{then_total, on_total, nat_cmp_total, alike_right}
use Rattle.std.proofs.lemmas.Bool.{false≢true}
use Rattle.std.proofs.lemmas.Bool.Decides.{nat_tests}
use Rattle.ctl_store.specs.declared.stanza_key.StanzaKey.{StanzaKey}
use Rattle.ctl_store.specs.Keys.{key_cmp, key_is, AreRising}
use Rattle.ctl_policy.specs.Keys.{with_key, without_key, below, stands_at}

pub key_total : IsTotalOrder key_cmp
key_total = then_total (on_total (λ (k : StanzaKey). k.list) nat_cmp_total) (on_total (λ (k : StanzaKey). k.stanza) nat_cmp_total)

pub at_place : {X : Type 0} (P : X → Type 0) (xs : List X) (i : ℕ) (d : X) → AllByRecursion P xs → i < length xs → P (get_or xs i d)
at_place P [] i d h l = absurd (omega arith)
at_place P (x ∷ xs) zero d h l = h.0
at_place P (x ∷ xs) (suc i) d h l = at_place P xs i d h.1 (omega arith)

lt_is : (o : Ordering) → is_lt o ≡ true → o ≡ Less
lt_is Less e = refl
lt_is Equal e = cc
lt_is Greater e = cc

-- no key that comes before k stands after one that doesn't
pub parted : (k : StanzaKey) (xs : List StanzaKey) → AreRising xs → IsPartitionedBy (λ x. is_lt (key_cmp x k)) xs
parted k [] h i j d le l e = absurd (omega arith)
parted k (x ∷ xs) h zero zero d le l e = e
parted k (x ∷ xs) h zero (suc j) d le l e = ap is_lt (key_total.trans x (get_or xs j d) k (at_place (λ q. key_cmp x q ≡ Less) xs j d h.0 (omega arith)) (lt_is _ e))
parted k (x ∷ xs) h (suc i) zero d le l e = absurd (omega arith)
parted k (x ∷ xs) h (suc i) (suc j) d le l e = parted k xs h.1 i j d (omega arith) (omega arith) e

-- halving finds how many keys are below one
pub below_is : (k : StanzaKey) (xs : List StanzaKey) (i : ℕ) → i ≤ length xs → IsPartitionPoint (λ x. is_lt (key_cmp x k) ≡ true) (λ x. is_lt (key_cmp x k) ≡ false) xs i → i ≡ below k xs
below_is k [] i le h = omega arith
below_is k (x ∷ xs) zero le h = ap (λ b. cond b (suc (below k xs)) 0) (sym (h.1 0 x (omega arith) (omega arith)))
below_is k (x ∷ xs) (suc i) le h =
    ap (λ r. suc r) (below_is k xs i (omega arith) (λ j d a b. h.0 (suc j) d (omega arith) (omega arith), λ j d a b. h.1 (suc j) d (omega arith) (omega arith)))
    ∙ ap (λ b. cond b (suc (below k xs)) 0) (sym (h.0 0 x (omega arith) (omega arith)))

-- a key that isn't there goes in before the first that isn't below it
pub insert_below : (k : StanzaKey) (xs : List StanzaKey) → stands_at k (below k xs) xs ≡ false → insert xs (below k xs) k ≡ with_key k xs
insert_below k [] h = refl
insert_below k (x ∷ xs) h = by (is_lt (key_cmp x k)) h (insert_below k xs)
  where
    by : (b : Bool) → stands_at k (cond b (suc (below k xs)) 0) (x ∷ xs) ≡ false → (stands_at k (below k xs) xs ≡ false → insert xs (below k xs) k ≡ with_key k xs)
        → insert (x ∷ xs) (cond b (suc (below k xs)) 0) k ≡ cond b (x ∷ with_key k xs) (cond (key_is k x) (x ∷ xs) (k ∷ x ∷ xs))
    by true h e = ap (λ r. x ∷ r) (e h)
    by false h e = ap (λ b. cond b (x ∷ xs) (k ∷ x ∷ xs)) (sym h)

-- and one that is there stays
pub with_there : (k : StanzaKey) (xs : List StanzaKey) → stands_at k (below k xs) xs ≡ true → xs ≡ with_key k xs
with_there k [] h = cc
with_there k (x ∷ xs) h = by (is_lt (key_cmp x k)) h (with_there k xs)
  where
    by : (b : Bool) → stands_at k (cond b (suc (below k xs)) 0) (x ∷ xs) ≡ true → (stands_at k (below k xs) xs ≡ true → xs ≡ with_key k xs)
        → x ∷ xs ≡ cond b (x ∷ with_key k xs) (cond (key_is k x) (x ∷ xs) (k ∷ x ∷ xs))
    by true h e = ap (λ r. x ∷ r) (e h)
    by false h e = ap (λ b. cond b (x ∷ xs) (k ∷ x ∷ xs)) (sym h)

-- ---- keys that are the same

pub key_is_equal : (k x : StanzaKey) → key_is k x ≡ is_eq (key_cmp x k)
key_is_equal k x = by (nat_cmp x.list k.list) (nat_cmp x.stanza k.stanza) (nat_eq x.list k.list) (nat_eq x.stanza k.stanza) (grind (arith, nat_tests)) (grind (arith, nat_tests))
  where
    by : (o p : Ordering) (a b : Bool) → a ≡ is_eq o → b ≡ is_eq p → (a && b) ≡ is_eq (ordering_then o p)
    by Less p a b e f = ap (λ c. c && b) e
    by Equal p a b e f = ap (λ c. c && b) e ∙ f
    by Greater p a b e f = ap (λ c. c && b) e

not_lt_eq : (o : Ordering) → is_eq o ≡ true → is_lt o ≡ false
not_lt_eq Less e = cc
not_lt_eq Equal e = refl
not_lt_eq Greater e = cc

not_eq_lt : (o : Ordering) → is_lt o ≡ true → is_eq o ≡ false
not_eq_lt Less e = refl
not_eq_lt Equal e = cc
not_eq_lt Greater e = cc

pub remove_below : (k : StanzaKey) (xs : List StanzaKey) → stands_at k (below k xs) xs ≡ true → remove xs (below k xs) ≡ without_key k xs
remove_below k [] h = cc
remove_below k (x ∷ xs) h = by (is_lt (key_cmp x k)) refl h (remove_below k xs)
  where
    by : (b : Bool) → is_lt (key_cmp x k) ≡ b → stands_at k (cond b (suc (below k xs)) 0) (x ∷ xs) ≡ true → (stands_at k (below k xs) xs ≡ true → remove xs (below k xs) ≡ without_key k xs) → remove (x ∷ xs) (cond b (suc (below k xs)) 0) ≡ cond (key_is k x) xs (x ∷ without_key k xs)
    by true e h rest = ap (λ r. x ∷ r) (rest h) ∙ ap (λ b. cond b xs (x ∷ without_key k xs)) (sym (key_is_equal k x ∙ not_eq_lt _ e))
    by false e h rest = ap (λ b. cond b xs (x ∷ without_key k xs)) (sym h)

-- a key above x isn't k, where x isn't below k
beyond : (k x y : StanzaKey) → key_cmp x y ≡ Less → is_lt (key_cmp x k) ≡ false → (o : Ordering) → key_cmp y k ≡ o → is_eq o ≡ false
beyond k x y a e Less f = refl
beyond k x y a e Equal f = let g = alike_right key_total y k x f in absurd (false≢true (sym e ∙ ap is_lt (sym g ∙ a)))
beyond k x y a e Greater f = refl

above : (k x : StanzaKey) (ys : List StanzaKey) → AllByRecursion (λ q. key_cmp x q ≡ Less) ys → is_lt (key_cmp x k) ≡ false → without_key k ys ≡ ys
above k x [] a e = refl
above k x (y ∷ ys) a e = ap (λ b. cond b ys (y ∷ without_key k ys)) (key_is_equal k y ∙ beyond k x y a.0 e (key_cmp y k) refl) ∙ ap (λ r. y ∷ r) (above k x ys a.1 e)

-- where the first that isn't below it is another key, it isn't there
pub without_absent : (k : StanzaKey) (xs : List StanzaKey) → AreRising xs → stands_at k (below k xs) xs ≡ false → without_key k xs ≡ xs
without_absent k [] r h = refl
without_absent k (x ∷ xs) r h = by (is_lt (key_cmp x k)) refl h (without_absent k xs r.1)
  where
    by : (b : Bool) → is_lt (key_cmp x k) ≡ b → stands_at k (cond b (suc (below k xs)) 0) (x ∷ xs) ≡ false → (stands_at k (below k xs) xs ≡ false → without_key k xs ≡ xs) → cond (key_is k x) xs (x ∷ without_key k xs) ≡ x ∷ xs
    by true e h rest = ap (λ b. cond b xs (x ∷ without_key k xs)) (key_is_equal k x ∙ not_eq_lt _ e) ∙ ap (λ r. x ∷ r) (rest h)
    by false e h rest = ap (λ b. cond b xs (x ∷ without_key k xs)) h ∙ ap (λ r. x ∷ r) (above k x xs r.0 e)
