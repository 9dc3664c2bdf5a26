-- Names given so far.
use Rattle.std.proofs.Common.{◌≡◌, ◌∙◌, Bool, true, false, ◌||◌, not, List, [], ◌∷◌, refl, sym, ap}
use Rattle.std.specs.List.{list_any}
use Rattle.std.specs.Ordering.{match_ordering}
use Rattle.std.specs.declared.cmp.Ordering.{Ordering}
use Rattle.std.specs.BTreeSet.{insert_key}
use Rattle.std.specs.declared.cmp.Ordering.TheVariants.{Less, Equal, Greater}

pub any-same : {X : Type 0} (p q : X → Bool) → ((x : X) → p x ≡ q x) → (xs : List X) → list_any p xs ≡ list_any q xs
any-same p q same [] = refl
any-same p q same (x ∷ xs) = rw (same x, any-same p q same xs) refl

or-twice : (a b : Bool) → (a || b) ≡ (a || (a || b))
or-twice true b = refl
or-twice false b = refl

or-swap : (a b c : Bool) → (a || (b || c)) ≡ (b || (a || c))
or-swap true true c = refl
or-swap true false c = refl
or-swap false b c = refl

-- one key more, by how it compares to the first
any-at : {K : Type 0} (cmp : K → K → Ordering) (p : K → Bool) (k x : K) (xs : List K) → (cmp k x ≡ Equal → p x ≡ p k)
    → list_any p (insert_key cmp xs k) ≡ (p k || list_any p xs) → (o : Ordering) → cmp k x ≡ o
    → list_any p (match_ordering o (k ∷ x ∷ xs) (x ∷ xs) (x ∷ insert_key cmp xs k)) ≡ (p k || (p x || list_any p xs))
any-at cmp p k x xs same rest Less e = refl
any-at cmp p k x xs same rest Equal e = rw (same e) (or-twice (p k) (list_any p xs))
any-at cmp p k x xs same rest Greater e = ap (λ t. p x || t) rest ∙ or-swap (p x) (p k) (list_any p xs)

-- one key more: the test passes at it, or at one of those before
pub any-insert : {K : Type 0} (cmp : K → K → Ordering) (p : K → Bool) (k : K) → ((x : K) → cmp k x ≡ Equal → p x ≡ p k) → (ks : List K)
    → list_any p (insert_key cmp ks k) ≡ (p k || list_any p ks)
any-insert cmp p k same [] = refl
any-insert cmp p k same (x ∷ xs) = any-at cmp p k x xs (same x) (any-insert cmp p k same xs) (cmp k x) refl

-- a name that isn't among the first ones is new if it isn't among the others
pub new-beyond : (first others added : Bool) → first ≡ false → added ≡ not others → added ≡ not (first || others)
new-beyond first others added none e = e ∙ ap (λ t. not (t || others)) (sym none)

-- one of the others is more
pub beyond-more : (first others others' same : Bool) → others' ≡ (same || others) → (first || others') ≡ (same || (first || others))
beyond-more first others others' same e = ap (λ t. first || t) e ∙ or-swap first same others
