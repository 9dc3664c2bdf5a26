-- Values that are written anew at every key of a tree, each by its key.
use Rattle.std.proofs.Common.{◌≡◌, Bool, true, false, cond, List, [], ◌∷◌, ◌++◌, map, Some, option_map, refl, ap, sym, subst, ◌∙◌}
use Rattle.std.specs.List.{AllByRecursion, FoldsTo}
use Rattle.std.specs.Map.{lookup}
use Rattle.std.specs.Map.Calls.{RetainsPairs, SomeCallAtPair}

-- what a closure that always answers `true`, writes g of the key and the value, and stays as it was leaves of a list of entries
pub map_same_keyed : {F K X : Type 0} (T : F → K → X → Bool → X → F → Type 0) (g : K → X → X) (f : F) → ((k : K) (v : X) (b : Bool) (w : X) (f' : F) → T f k v b w f' → (b ≡ true) × (w ≡ g k v) × (f' ≡ f))
    → (es kept : List (K × X)) → RetainsPairs T f es kept → kept ≡ map (λ e. (e.0, g e.0 e.1)) es
map_same_keyed T g f h [] kept r = r
map_same_keyed T g f h (e ∷ es) kept r =
    let a = h e.0 e.1 r.0 r.1 r.2 r.4 in
    let rest = map_same_keyed T g f h es r.3 (subst (λ u. RetainsPairs T u es r.3) a.2 r.5) in
    r.6 ∙ ap (λ b. cond b ((e.0, r.1) ∷ r.3) r.3) a.0 ∙ (λ i. (e.0, a.1 i) ∷ rest i)

-- the value that is looked up there, where g writes f of each value at the keys that pass the test
pub lookup_keyed : {K X : Type 0} (test : K → Bool) (g : K → X → X) (f : X → X) → ((k : K) (v : X) → test k ≡ true → g k v ≡ f v)
    → (es : List (K × X)) → lookup test (map (λ e. (e.0, g e.0 e.1)) es) ≡ option_map f (lookup test es)
lookup_keyed test g f same [] = refl
lookup_keyed test g f same (e ∷ es) = by (test e.0) refl (lookup_keyed test g f same es)
  where
    by : (b : Bool) → test e.0 ≡ b → lookup test (map (λ d. (d.0, g d.0 d.1)) es) ≡ option_map f (lookup test es)
        → cond b (Some (g e.0 e.1)) (lookup test (map (λ d. (d.0, g d.0 d.1)) es)) ≡ option_map f (cond b (Some e.1) (lookup test es))
    by true t rest = ap Some (same e.0 e.1 t)
    by false t rest = rest

-- a closure that stays as it was at each call is the same after several
pub folds_same : {F K X : Type 0} (T : F → K → X → Bool → X → F → Type 0) (f : F) (es : List (K × X)) (f' : F) → FoldsTo (SomeCallAtPair T) f es f' → ((f : F) (k : K) (v : X) (b : Bool) (w : X) (f' : F) → T f k v b w f' → f' ≡ f) → f' ≡ f
folds_same T f [] f' s h = sym s
folds_same T f (e ∷ es) f' s h = folds_same T s.0 es f' s.2 h ∙ h f e.0 e.1 s.1.0 s.1.1 s.0 s.1.2

-- what holds of each element holds of one in the middle
pub in_middle : {X : Type 0} (P : X → Type 0) (before after : List X) (x : X) → AllByRecursion P (before ++ x ∷ after) → P x
in_middle P [] after x h = h.0
in_middle P (b ∷ before) after x h = in_middle P before after x h.1
