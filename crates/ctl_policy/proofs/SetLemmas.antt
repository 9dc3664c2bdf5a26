-- Keys in order, by which of them are there.
use Rattle.std.proofs.Common.{◌≡◌, ℕ, Bool, true, false, cond, ◌&&◌, ◌||◌, nat_eq, List, [], ◌∷◌, refl, ap, sym, subst, ◌∙◌, arith, Ordering, Less, Equal, Greater}
use Rattle.std.specs.List.{AllByRecursion}
use Rattle.std.specs.Ordering.{is_lt, is_eq, nat_cmp, ordering_then, ordering_reverse}
use Rattle.std.proofs.lemmas.Bool.{false≢true}
use Rattle.std.proofs.lemmas.Bool.Decides.{nat_tests}
use Rattle.std.proofs.lemmas.Cmp.{tied_itself}
use Rattle.std.proofs.lemmas.Map.Lookups.{exact_unsigned}
use Rattle.ctl_store.specs.declared.stanza_key.StanzaKey.{StanzaKey}
use Rattle.ctl_store.specs.Keys.{key_cmp, key_is, AreRising}
use Rattle.ctl_policy.specs.Keys.{with_key, without_key, has_key}
use Rattle.ctl_policy.proofs.KeyLemmas.{key_total, key_is_equal}

-- ---- two keys

and_then : (o p : Ordering) → ordering_then o p ≡ Equal → (o ≡ Equal) × (p ≡ Equal)
and_then Less p e = cc
and_then Equal p e = (refl, e)
and_then Greater p e = cc

pub same_key : (k x : StanzaKey) → key_cmp k x ≡ Equal → k ≡ x
same_key k x e =
    let h = and_then (nat_cmp k.list x.list) (nat_cmp k.stanza x.stanza) e in
    ap (λ (n : ℕ). record { list = n; stanza = k.stanza }) (exact_unsigned k.list x.list h.0) ∙ ap (λ (n : ℕ). record { list = x.list; stanza = n }) (exact_unsigned k.stanza x.stanza h.1)

eq_of : (o : Ordering) → is_eq o ≡ true → o ≡ Equal
eq_of Less e = cc
eq_of Equal e = refl
eq_of Greater e = cc

pub key_is-same : (k x : StanzaKey) → key_is k x ≡ true → k ≡ x
key_is-same k x e = sym (same_key x k (eq_of _ (sym (key_is_equal k x) ∙ e)))

pub key_is-itself : (k : StanzaKey) → key_is k k ≡ true
key_is-itself k = key_is_equal k k ∙ ap is_eq (tied_itself key_total k)

pub key_is-back : (k x : StanzaKey) → key_is k x ≡ key_is x k
key_is-back k x = by (nat_eq x.list k.list) (nat_eq x.stanza k.stanza) (nat_eq k.list x.list) (nat_eq k.stanza x.stanza) (grind (arith, nat_tests)) (grind (arith, nat_tests))
  where
    by : (a b c d : Bool) → a ≡ c → b ≡ d → (a && b) ≡ (c && d)
    by a b c d e f = λ i. e i && f i

less_differs : (k x : StanzaKey) → key_cmp k x ≡ Less → key_is k x ≡ false
less_differs k x e = key_is_equal k x ∙ ap is_eq (key_total.antisymm x k ∙ ap ordering_reverse e)

greater_differs : (k x : StanzaKey) → key_cmp x k ≡ Less → key_is k x ≡ false
greater_differs k x e = key_is_equal k x ∙ ap is_eq e

-- ---- a key below others

abbrev pub IsBelow : StanzaKey → List StanzaKey → Type 0
IsBelow k xs = AllByRecursion (λ q. key_cmp k q ≡ Less) xs

pub below_absent : (k : StanzaKey) (xs : List StanzaKey) → IsBelow k xs → has_key k xs ≡ false
below_absent k [] h = refl
below_absent k (x ∷ xs) h = ap (λ b. b || has_key k xs) (less_differs k x h.0) ∙ below_absent k xs h.1

pub below_further : (k x : StanzaKey) (xs : List StanzaKey) → key_cmp k x ≡ Less → IsBelow x xs → IsBelow k xs
below_further k x [] e h = tt
below_further k x (y ∷ ys) e h = (key_total.trans k x y e h.0, below_further k x ys e h.1)

or_false : (a b : Bool) → a ≡ true → (a || b) ≡ true
or_false true b e = refl
or_false false b e = cc

-- ---- keys in order are told by which are there

tails : (x k : StanzaKey) (xs ys : List StanzaKey) → IsBelow x xs → IsBelow x ys → has_key k (x ∷ xs) ≡ has_key k (x ∷ ys) → has_key k xs ≡ has_key k ys
tails x k xs ys p q h = by (key_is k x) refl h
  where
    by : (b : Bool) → key_is k x ≡ b → (b || has_key k xs) ≡ (b || has_key k ys) → has_key k xs ≡ has_key k ys
    by true e h = ap (λ z. has_key z xs) (key_is-same k x e) ∙ below_absent x xs p ∙ sym (below_absent x ys q) ∙ ap (λ z. has_key z ys) (sym (key_is-same k x e))
    by false e h = h

first_there : (x : StanzaKey) (xs : List StanzaKey) → has_key x (x ∷ xs) ≡ true
first_there x xs = or_false (key_is x x) (has_key x xs) (key_is-itself x)

pub same_keys : (xs ys : List StanzaKey) → AreRising xs → AreRising ys → ((k : StanzaKey) → has_key k xs ≡ has_key k ys) → xs ≡ ys
same_keys [] [] p q h = refl
same_keys [] (y ∷ ys) p q h = absurd (false≢true (h y ∙ first_there y ys))
same_keys (x ∷ xs) [] p q h = absurd (false≢true (sym (h x) ∙ first_there x xs))
same_keys (x ∷ xs) (y ∷ ys) p q h = by (key_cmp x y) refl (λ f. same_keys xs ys p.1 q.1 f)
  where
    by : (o : Ordering) → key_cmp x y ≡ o → (((k : StanzaKey) → has_key k xs ≡ has_key k ys) → xs ≡ ys) → x ∷ xs ≡ y ∷ ys
    by Less e rest = absurd (false≢true (sym (below_absent x (y ∷ ys) (e, below_further x y ys e q.0)) ∙ sym (h x) ∙ first_there x xs))
    by Greater e rest = let g = key_total.antisymm y x ∙ ap ordering_reverse e in absurd (false≢true (sym (below_absent y (x ∷ xs) (g, below_further y x xs g p.0)) ∙ h y ∙ first_there y ys))
    by Equal e rest =
        let s = same_key x y e in
        let below : IsBelow x ys = subst (λ z. IsBelow z ys) (sym s) q.0 in
        let r = rest (λ k. tails x k xs ys p.0 below (h k ∙ ap (λ z. has_key k (z ∷ ys)) (sym s))) in
        λ i. s i ∷ r i

-- ---- a key that comes

swap : (a b c : Bool) → (a || (b || c)) ≡ (b || (a || c))
swap true true c = refl
swap true false c = refl
swap false b c = refl

twice : (a c : Bool) → (a || c) ≡ (a || (a || c))
twice true c = refl
twice false c = refl

pub has_key-with : (j k : StanzaKey) (xs : List StanzaKey) → has_key k (with_key j xs) ≡ (key_is j k || has_key k xs)
has_key-with j k [] = ap (λ b. b || false) (key_is-back k j)
has_key-with j k (x ∷ xs) = by (is_lt (key_cmp x j)) (key_is j x) refl (has_key-with j k xs)
  where
    by : (b c : Bool) → key_is j x ≡ c → has_key k (with_key j xs) ≡ (key_is j k || has_key k xs) → has_key k (cond b (x ∷ with_key j xs) (cond c (x ∷ xs) (j ∷ x ∷ xs))) ≡ (key_is j k || has_key k (x ∷ xs))
    by true c is e = ap (λ b. key_is k x || b) e ∙ swap (key_is k x) (key_is j k) (has_key k xs)
    by false true is e = twice (key_is k x) (has_key k xs) ∙ ap (λ b. b || (key_is k x || has_key k xs)) (ap (λ z. key_is k z) (sym (key_is-same j x is)) ∙ key_is-back k j)
    by false false is e = ap (λ b. b || has_key k (x ∷ xs)) (key_is-back k j)

with_above : (j y : StanzaKey) (xs : List StanzaKey) → key_cmp y j ≡ Less → IsBelow y xs → IsBelow y (with_key j xs)
with_above j y [] e h = (e, tt)
with_above j y (x ∷ xs) e h = by (is_lt (key_cmp x j)) (key_is j x) (with_above j y xs e h.1)
  where
    by : (b c : Bool) → IsBelow y (with_key j xs) → IsBelow y (cond b (x ∷ with_key j xs) (cond c (x ∷ xs) (j ∷ x ∷ xs)))
    by true c r = (h.0, r)
    by false true r = h
    by false false r = (e, h)

lt_of : (o : Ordering) → is_lt o ≡ true → o ≡ Less
lt_of Less e = refl
lt_of Equal e = cc
lt_of Greater e = cc

pub rises-with : (j : StanzaKey) (xs : List StanzaKey) → AreRising xs → AreRising (with_key j xs)
rises-with j [] h = (tt, tt)
rises-with j (x ∷ xs) h = by (is_lt (key_cmp x j)) refl (key_is j x) refl (rises-with j xs h.1)
  where
    less : (o : Ordering) → key_cmp x j ≡ o → is_lt o ≡ false → is_eq o ≡ false → key_cmp j x ≡ Less
    less Less e f g = cc
    less Equal e f g = cc
    less Greater e f g = key_total.antisymm j x ∙ ap ordering_reverse e

    by : (b : Bool) → is_lt (key_cmp x j) ≡ b → (c : Bool) → key_is j x ≡ c → AreRising (with_key j xs) → AreRising (cond b (x ∷ with_key j xs) (cond c (x ∷ xs) (j ∷ x ∷ xs)))
    by true e c is r = (with_above j x xs (lt_of _ e) h.0, r)
    by false e true is r = h
    by false e false is r = let l = less (key_cmp x j) refl e (sym (key_is_equal j x) ∙ is) in ((l, below_further j x xs l h.0), h)

-- ---- a key that goes

without_above : (j y : StanzaKey) (xs : List StanzaKey) → IsBelow y xs → IsBelow y (without_key j xs)
without_above j y [] h = tt
without_above j y (x ∷ xs) h = by (key_is j x) (without_above j y xs h.1)
  where
    by : (b : Bool) → IsBelow y (without_key j xs) → IsBelow y (cond b xs (x ∷ without_key j xs))
    by true r = h.1
    by false r = (h.0, r)

pub rises-without : (j : StanzaKey) (xs : List StanzaKey) → AreRising xs → AreRising (without_key j xs)
rises-without j [] h = tt
rises-without j (x ∷ xs) h = by (key_is j x) (rises-without j xs h.1)
  where
    by : (b : Bool) → AreRising (without_key j xs) → AreRising (cond b xs (x ∷ without_key j xs))
    by true r = h.1
    by false r = (without_above j x xs h.0, r)

pub has_key-without : (j k : StanzaKey) (xs : List StanzaKey) → AreRising xs → has_key k (without_key j xs) ≡ cond (key_is j k) false (has_key k xs)
has_key-without j k [] h = none (key_is j k)
  where
    none : (b : Bool) → false ≡ cond b false false
    none true = refl
    none false = refl
has_key-without j k (x ∷ xs) h = by (key_is j x) refl (has_key-without j k xs h.1)
  where
    by : (b : Bool) → key_is j x ≡ b → has_key k (without_key j xs) ≡ cond (key_is j k) false (has_key k xs) → has_key k (cond b xs (x ∷ without_key j xs)) ≡ cond (key_is j k) false (key_is k x || has_key k xs)
    by true e r = gone (key_is j k) refl
      where
        gone : (b : Bool) → key_is j k ≡ b → has_key k xs ≡ cond b false (key_is k x || has_key k xs)
        gone true f = ap (λ z. has_key z xs) (sym (key_is-same j k f) ∙ key_is-same j x e) ∙ below_absent x xs h.0
        gone false f = ap (λ b. b || has_key k xs) (sym (key_is-back k x ∙ ap (λ z. key_is z k) (sym (key_is-same j x e)) ∙ f))
    by false e r = ap (λ b. key_is k x || b) r ∙ kept (key_is j k) refl
      where
        kept : (b : Bool) → key_is j k ≡ b → (key_is k x || cond b false (has_key k xs)) ≡ cond b false (key_is k x || has_key k xs)
        kept true f = ap (λ b. b || false) (ap (λ z. key_is z x) (sym (key_is-same j k f)) ∙ e)
        kept false f = refl
