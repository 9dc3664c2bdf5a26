-- The longest run of bytes that pass, and what follows it.
use Rattle.std.proofs.Common.{◌≡◌, ℕ, suc, ◌+◌, Bool, true, false, cond, List, [], ◌∷◌, ◌++◌, take, drop, refl, sym, ap, subst, ◌∙◌, arith}
use Rattle.std.specs.Prelude.{◌&&◌}
use Rattle.std.specs.List.{prefix_len, list_all}
use Rattle.std.proofs.lemmas.List.{take-append-drop}
use Rattle.ctl_relation.specs.Runs.{run, rest, Stops}

pub run-rest : (p : ℕ → Bool) (text : List ℕ) → text ≡ run p text ++ rest p text
run-rest p text = sym (take-append-drop (prefix_len p text) text)

pub run-passes : (p : ℕ → Bool) (text : List ℕ) → list_all p (run p text) ≡ true
run-passes p [] = refl
run-passes p (b ∷ text) = passes (p b) refl (run-passes p text)
  where
    passes : (t : Bool) → p b ≡ t → list_all p (run p text) ≡ true → list_all p (run p (b ∷ text)) ≡ true
    passes true e h =
        let one : 1 + prefix_len p text ≡ suc (prefix_len p text) = omega arith in
        ap (λ n. list_all p (take n (b ∷ text))) (ap (λ t. cond t (1 + prefix_len p text) 0) e ∙ one) ∙ ap (λ t. t && list_all p (run p text)) e ∙ h
    passes false e h = ap (λ n. list_all p (take n (b ∷ text))) (ap (λ t. cond t (1 + prefix_len p text) 0) e)

pub run-more : (p : ℕ → Bool) (b : ℕ) (text : List ℕ) → p b ≡ true → run p (b ∷ text) ≡ b ∷ run p text
run-more p b text h =
    let one : 1 + prefix_len p text ≡ suc (prefix_len p text) = omega arith in
    ap (λ n. take n (b ∷ text)) (ap (λ t. cond t (1 + prefix_len p text) 0) h ∙ one)

pub run-none : (p : ℕ → Bool) (b : ℕ) (text : List ℕ) → p b ≡ false → run p (b ∷ text) ≡ []
run-none p b text h = ap (λ n. take n (b ∷ text)) (ap (λ t. cond t (1 + prefix_len p text) 0) h)

pub rest-more : (p : ℕ → Bool) (b : ℕ) (text : List ℕ) → p b ≡ true → rest p (b ∷ text) ≡ rest p text
rest-more p b text h =
    let one : 1 + prefix_len p text ≡ suc (prefix_len p text) = omega arith in
    ap (λ n. drop n (b ∷ text)) (ap (λ t. cond t (1 + prefix_len p text) 0) h ∙ one)

pub rest-all : (p : ℕ → Bool) (b : ℕ) (text : List ℕ) → p b ≡ false → rest p (b ∷ text) ≡ b ∷ text
rest-all p b text h = ap (λ n. drop n (b ∷ text)) (ap (λ t. cond t (1 + prefix_len p text) 0) h)

-- behind the longest run no byte passes
pub rest-stops : (p : ℕ → Bool) (text : List ℕ) → Stops p (rest p text)
rest-stops p [] = tt
rest-stops p (b ∷ text) = go (p b) refl (rest-stops p text)
  where
    go : (u : Bool) → p b ≡ u → Stops p (rest p text) → Stops p (rest p (b ∷ text))
    go true u h = let P : List ℕ → Type 0 = Stops p in subst P (sym (rest-more p b text u)) h
    go false u h = let P : List ℕ → Type 0 = Stops p in subst P (sym (rest-all p b text u)) u
