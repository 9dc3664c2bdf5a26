-- Lists over which all sums are the same have the same elements.
use Rattle.std.proofs.Common.{◌≡◌, ℕ, suc, ◌<◌, ◌≤◌, Bool, true, false, cond, List, [], ◌∷◌, length, get_or, refl, ap, sym, subst, arith}
use Rattle.std.specs.List.{sum_by, remove}
use Rattle.std.specs.List.Sorted.{IsPermutation}
use Rattle.std.proofs.lemmas.List.Sums.{sum_by-cons, sum_by-remove}
use Rattle.std.proofs.lemmas.List.Sorted.{IsPermutation-refl, IsPermutation-sym, IsPermutation-cons, IsPermutation-trans, IsPermutation-remove}

-- where an element stands
abbrev Stands : {X : Type 0} → X → List X → Type 0
Stands {X} x ys = (i : ℕ) × (i < length ys) × (x ≡ get_or ys i x)

module _ {X : Type 0} (same : X → X → Bool) (exact : (a b : X) → same a b ≡ true → a ≡ b) (own : (a : X) → same a a ≡ true) where
  abbrev is : X → X → ℕ
  is x y = cond (same x y) 1 0

  stands : (x : X) (ys : List X) → 1 ≤ sum_by (is x) ys → Stands x ys
  stands x [] h = absurd (omega (arith, h))
  stands x (y ∷ ys) h = by (same x y) refl (stands x ys)
    where
      by : (b : Bool) → same x y ≡ b → (1 ≤ sum_by (is x) ys → Stands x ys) → Stands x (y ∷ ys)
      by true e rest = (0, omega arith, exact x y e)
      by false e rest =
          let less : 1 ≤ sum_by (is x) ys = (let one : is x y ≡ 0 = ap (λ b. cond b 1 0) e in omega (arith, h, one, sum_by-cons (is x) y ys)) in
          let at = rest less in
          (suc at.0, omega (arith, at.1), at.2)

  ones : (xs : List X) → sum_by (λ x. 1) xs ≡ 0 → xs ≡ []
  ones [] h = refl
  ones (x ∷ xs) h = absurd (omega (arith, h, sum_by-cons (λ (y : X). 1) x xs))

  pub permutation_of_sums : (xs ys : List X) → ((f : X → ℕ) → sum_by f xs ≡ sum_by f ys) → IsPermutation xs ys
  permutation_of_sums [] ys h = subst (IsPermutation []) (sym (ones ys (sym (h (λ x. 1))))) (IsPermutation-refl [])
  permutation_of_sums (x ∷ xs) ys h =
      let mine : is x x ≡ 1 = ap (λ b. cond b 1 0) (own x) in
      let at : Stands x ys = stands x ys (omega (arith, h (is x), mine, sum_by-cons (is x) x xs)) in
      let taken : IsPermutation ys (x ∷ remove ys at.0) = IsPermutation-remove ys at.0 x at.1 at.2 in
      let rest : (f : X → ℕ) → sum_by f xs ≡ sum_by f (remove ys at.0) = λ f. (let one : f (get_or ys at.0 x) ≡ f x = ap f (sym at.2) in omega (arith, h f, one, sum_by-cons f x xs, sum_by-remove f ys at.0 x at.1)) in
      IsPermutation-trans (x ∷ xs) (x ∷ remove ys at.0) ys (IsPermutation-cons x xs (remove ys at.0) (permutation_of_sums xs (remove ys at.0) rest)) (IsPermutation-sym ys (x ∷ remove ys at.0) taken)
