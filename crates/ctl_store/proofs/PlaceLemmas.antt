-- Places in slots whose serials rise.
use Rattle.std.proofs.Common.{◌≡◌, ℕ, zero, suc, ◌+◌, ◌<◌, ◌≤◌, Bool, true, false, cond, nat_eq, List, [], ◌∷◌, ◌++◌, length, get_or, set, map, Option, None, Some, is_some, option_map, refl, ap, subst, ◌∙◌, arith}
use Rattle.std.specs.List.{remove, AllByRecursion}
use Rattle.std.specs.Map.{lookup}
use Rattle.std.specs.Option.{option_or}
use Rattle.std.specs.Ordering.{is_eq}
use Rattle.std.specs.declared.cmp.Ordering.{Ordering}
use Rattle.std.specs.declared.cmp.Ordering.TheVariants.{Equal}
use Rattle.std.proofs.lemmas.Bool.Decides.{nat_tests}
use Rattle.ctl_store.specs.Step.{place}
use Rattle.ctl_store.specs.Slots.{has_serial, Rises, replace_at, slots_from}
use Rattle.ctl_ordered.proofs.SlotLemmas.{rises_less}

pub if_cases : {A B : Type 0} (f : A → B) (b : Bool) (x y : A) → f (cond b x y) ≡ cond b (f x) (f y)
if_cases f true x y = refl
if_cases f false x y = refl

pub eq_is : (a b : ℕ) → a ≡ b → nat_eq a b ≡ true
eq_is a b e = grind (arith, nat_tests)

pub lt_ne : (a b : ℕ) → a < b → nat_eq a b ≡ false
lt_ne a b l = grind (arith, nat_tests)

pub gt_ne : (a b : ℕ) → b < a → nat_eq a b ≡ false
gt_ne a b l = grind (arith, nat_tests)

pub is_eq_from : (a b : ℕ) → nat_eq a b ≡ true → a ≡ b
is_eq_from a b e = grind (arith, nat_tests)

pub some_is : {X : Type 0} {x y : X} → Some x ≡ Some y → x ≡ y
some_is e = cc

pub none_is : {X : Type 0} (o : Option X) → is_some o ≡ false → o ≡ None
none_is None h = refl
none_is (Some x) h = cc

-- what there is, if there is one
pub some_of : {X : Type 0} (o : Option X) → is_some o ≡ true → (x : X) × (o ≡ Some x)
some_of None e = cc
some_of (Some x) e = (x, refl)

-- ---- serials that rise

module _ {V : Type 0} where
  pub Rises-from : (n : ℕ) (rs : List (ℕ × V)) (m i : ℕ) (d : ℕ × V) → Rises n rs m → i < length rs → n ≤ (get_or rs i d).0
  Rises-from n [] m i d h l = absurd (omega arith)
  Rises-from n (r ∷ rs) m zero d h l = h.0
  Rises-from n (r ∷ rs) m (suc i) d h l = omega (arith, h.0, Rises-from (suc r.0) rs m i d h.1 (omega arith))

  pub Rises-up : (n : ℕ) (rs : List (ℕ × V)) (m i j : ℕ) (d : ℕ × V) → Rises n rs m → i < j → j < length rs → (get_or rs i d).0 < (get_or rs j d).0
  Rises-up n [] m i j d h l b = absurd (omega arith)
  Rises-up n (r ∷ rs) m zero zero d h l b = absurd (omega arith)
  Rises-up n (r ∷ rs) m zero (suc j) d h l b = omega (arith, Rises-from (suc r.0) rs m j d h.1 (omega arith))
  Rises-up n (r ∷ rs) m (suc i) zero d h l b = absurd (omega arith)
  Rises-up n (r ∷ rs) m (suc i) (suc j) d h l b = Rises-up (suc r.0) rs m i j d h.1 (omega arith) (omega arith)

  pub Rises-remove : (n : ℕ) (rs : List (ℕ × V)) (m i : ℕ) → Rises n rs m → i < length rs → Rises n (remove rs i) m
  Rises-remove n [] m i h l = absurd (omega arith)
  Rises-remove n (y ∷ rs) m zero h l = rises_less (suc y.0) n rs m (omega (arith, h.0)) h.1
  Rises-remove n (y ∷ rs) m (suc i) h l = (h.0, Rises-remove (suc y.0) rs m i h.1 (omega arith))

-- ---- places

module _ {X : Type 0} (p : X → Bool) where
  pub place_none : (xs : List X) → ((k : ℕ) (d : X) → k < length xs → p (get_or xs k d) ≡ false) → place p xs ≡ None
  place_none [] h = refl
  place_none (x ∷ xs) h = grind (arith, h 0 x (omega arith), place_none xs (λ k d l. h (suc k) d (omega arith)))

  pub place_within : (xs : List X) (i : ℕ) → place p xs ≡ Some i → i < length xs
  place_within [] i e = cc
  place_within (x ∷ xs) i e = grind (arith, place_within xs)

  -- what stands there passes
  pub place_passes : (xs : List X) (i : ℕ) (d : X) → place p xs ≡ Some i → p (get_or xs i d) ≡ true
  place_passes [] i d e = cc
  place_passes (x ∷ xs) i d e = grind (arith, place_passes xs)

pub place-map : {X Y : Type 0} (f : X → Y) (p : Y → Bool) (xs : List X) → place p (map f xs) ≡ place (λ x. p (f x)) xs
place-map f p [] = refl
place-map f p (x ∷ xs) = ap (λ o. cond (p (f x)) (Some 0) (option_map (λ n. suc n) o)) (place-map f p xs)

module _ {V : Type 0} where
  -- the slot of a serial stands at one place
  pub place_at : (s n : ℕ) (rs : List (ℕ × V)) (m i : ℕ) → Rises n rs m → i < length rs → ((d : ℕ × V) → (get_or rs i d).0 ≡ s) → place (has_serial s) rs ≡ Some i
  place_at s n [] m i h l e = absurd (omega arith)
  place_at s n (r ∷ rs) m zero h l e = ap (λ b. cond b (Some 0) (option_map (λ n. suc n) (place (has_serial s) rs))) (eq_is r.0 s (e r))
  place_at s n (r ∷ rs) m (suc i) h l e =
      ap (λ b. cond b (Some 0) (option_map (λ n. suc n) (place (has_serial s) rs))) (lt_ne r.0 s (omega (arith, Rises-from (suc r.0) rs m i r h.1 (omega arith), e r)))
      ∙ ap (option_map (λ n. suc n)) (place_at s (suc r.0) rs m i h.1 (omega arith) e)

  pub Rises-replace : (n : ℕ) (rs : List (ℕ × V)) (m i : ℕ) (x : V) → Rises n rs m → Rises n (replace_at rs i x) m
  Rises-replace n [] m i x h = h
  Rises-replace n (y ∷ rs) m zero x h = h
  Rises-replace n (y ∷ rs) m (suc i) x h = (h.0, Rises-replace (suc y.0) rs m i x h.1)

  -- the value at the place of a serial
  pub lookup-place : (s : ℕ) (rs : List (ℕ × V)) (i : ℕ) (d : ℕ × V) → place (has_serial s) rs ≡ Some i → lookup (λ k. nat_eq k s) rs ≡ Some (get_or rs i d).1
  lookup-place s [] i d e = cc
  lookup-place s (r ∷ rs) i d e = grind (arith, lookup-place s rs)

  pub lookup-place_none : (s : ℕ) (rs : List (ℕ × V)) → place (has_serial s) rs ≡ None → lookup (λ k. nat_eq k s) rs ≡ None
  lookup-place_none s [] e = refl
  lookup-place_none s (r ∷ rs) e = grind (arith, lookup-place_none s rs)

  pub Rises-slots_from : (n : ℕ) (xs : List V) → Rises n (slots_from n xs) (n + length xs)
  Rises-slots_from n [] = omega arith
  Rises-slots_from n (x ∷ xs) = (omega arith, subst (λ m. Rises (suc n) (slots_from (suc n) xs) m) (omega arith) (Rises-slots_from (suc n) xs))

-- ---- tests and orders

pub or_none : {X : Type 0} (o : Option X) → option_or o None ≡ o
or_none None = refl
or_none (Some x) = refl

pub equal_is : (o : Ordering) → is_eq o ≡ true → o ≡ Equal
equal_is o e = grind arith

pub turned : (a b : ℕ) → nat_eq a b ≡ nat_eq b a
turned a b = grind (arith, nat_tests)

-- ---- what holds of all

module _ {X : Type 0} {P Q : X → Type 0} where
  pub all_map : ((x : X) → P x → Q x) → (xs : List X) → AllByRecursion P xs → AllByRecursion Q xs
  all_map f [] h = tt
  all_map f (x ∷ xs) h = (f x h.0, all_map f xs h.1)

module _ {X : Type 0} {P Q S : X → Type 0} where
  pub all_zip : ((x : X) → P x → Q x → S x) → (xs : List X) → AllByRecursion P xs → AllByRecursion Q xs → AllByRecursion S xs
  all_zip f [] h k = tt
  all_zip f (x ∷ xs) h k = (f x h.0 k.0, all_zip f xs h.1 k.1)

module _ {X : Type 0} (P : X → Type 0) where
  pub all_append : (xs ys : List X) → AllByRecursion P xs → AllByRecursion P ys → AllByRecursion P (xs ++ ys)
  all_append [] ys h k = k
  all_append (x ∷ xs) ys h k = (h.0, all_append xs ys h.1 k)

  pub all_set : (xs : List X) (i : ℕ) (x : X) → AllByRecursion P xs → P x → AllByRecursion P (set xs i x)
  all_set [] i x h p = h
  all_set (y ∷ ys) zero x h p = (p, h.1)
  all_set (y ∷ ys) (suc i) x h p = (h.0, all_set ys i x h.1 p)

  pub all_removed : (xs : List X) (i : ℕ) → AllByRecursion P xs → AllByRecursion P (remove xs i)
  all_removed [] zero h = h
  all_removed [] (suc i) h = h
  all_removed (y ∷ ys) zero h = h.1
  all_removed (y ∷ ys) (suc i) h = (h.0, all_removed ys i h.1)

  pub all_front : (xs ys : List X) → AllByRecursion P (xs ++ ys) → AllByRecursion P xs
  all_front [] ys h = tt
  all_front (x ∷ xs) ys h = (h.0, all_front xs ys h.1)

  pub all_back : (xs ys : List X) → AllByRecursion P (xs ++ ys) → AllByRecursion P ys
  all_back [] ys h = h
  all_back (x ∷ xs) ys h = all_back xs ys h.1
