-- The function that reads trees finds those that words spell, and no others.
use Rattle.std.proofs.Common.{◌≡◌, ◌∙◌, ◌↔◌, ◌≤◌, ◌<◌, ◌+◌, ◌*◌, ℕ, zero, suc, List, [], ◌∷◌, length, drop, Option, None, Some, refl, sym, ap, arith}
use Rattle.std.specs.Option.{option_and_then}
use Rattle.ctl_filter.specs.declared.token.Token.{Token}
use Rattle.ctl_filter.specs.declared.token.Token.TheVariants.{Bang, Open, Close, And, Or, Atom}
use Rattle.ctl_filter.specs.Grammar.{Neg, Conj, Pred, spell_neg, spell_conj, spell_pred, nest_neg, nest_conj, nest_pred, Lacks, NoMore, IsSpelled, most_nested}
use Rattle.ctl_filter.specs.Grammar.Neg.{atom_neg, bang, parens}
use Rattle.ctl_filter.specs.Grammar.Conj.{one_neg, and_then}
use Rattle.ctl_filter.specs.Grammar.Pred.{one_conj, or_else}
use Rattle.ctl_filter.specs.Trees.{one_less, banged, closed, neg_by, conj_before, conj_by, pred_before, pred_by, first_neg, first_conj, first_pred, whole, tree_of}
use Rattle.ctl_filter.proofs.GrammarLemmas.{closes, or-lacks, ends}

-- ---- what is spelled is longer than what follows

mutual
  neg-longer : (x : Neg) (rest : List Token) → length rest < length (spell_neg x rest)
  neg-longer (atom_neg n) rest = omega arith
  neg-longer (bang x) rest = omega (arith, neg-longer x rest)
  neg-longer (parens p) rest = omega (arith, pred-longer p (Close ∷ rest))

  conj-longer : (c : Conj) (rest : List Token) → length rest < length (spell_conj c rest)
  conj-longer (one_neg x) rest = neg-longer x rest
  conj-longer (and_then x c) rest = omega (arith, neg-longer x (And ∷ spell_conj c rest), conj-longer c rest)

  pred-longer : (p : Pred) (rest : List Token) → length rest < length (spell_pred p rest)
  pred-longer (one_conj c) rest = conj-longer c rest
  pred-longer (or_else c p) rest = omega (arith, conj-longer c (Or ∷ spell_pred p rest), pred-longer p rest)

-- ---- what is spelled is found

conj-ends : (x : Neg) (rest : List Token) (more : Option (Conj × List Token)) → Lacks And rest → conj_by x rest more ≡ Some (one_neg x, rest)
conj-ends x [] more none = refl
conj-ends x (And ∷ rest) more none = absurd (none rest refl)
conj-ends x (Atom n ∷ rest) more none = refl
conj-ends x (Bang ∷ rest) more none = refl
conj-ends x (Open ∷ rest) more none = refl
conj-ends x (Close ∷ rest) more none = refl
conj-ends x (Or ∷ rest) more none = refl

pred-ends : (c : Conj) (rest : List Token) (more : Option (Pred × List Token)) → Lacks Or rest → pred_by c rest more ≡ Some (one_conj c, rest)
pred-ends c [] more none = refl
pred-ends c (Or ∷ rest) more none = absurd (none rest refl)
pred-ends c (Atom n ∷ rest) more none = refl
pred-ends c (Bang ∷ rest) more none = refl
pred-ends c (Open ∷ rest) more none = refl
pred-ends c (Close ∷ rest) more none = refl
pred-ends c (And ∷ rest) more none = refl

mutual
  neg-found : (x : Neg) (n depth : ℕ) (rest : List Token) → nest_neg x ≤ depth → 3 * length (spell_neg x rest) ≤ n → first_neg n depth (spell_neg x rest) ≡ Some (x, rest)
  neg-found x zero depth rest le fits = absurd (omega (arith, neg-longer x rest))
  neg-found (atom_neg k) (suc n) depth rest le fits = refl
  neg-found (bang x) (suc n) zero rest le fits = absurd (omega arith)
  neg-found (bang x) (suc n) (suc depth) rest le fits = ap banged (neg-found x n depth rest (omega arith) (omega arith))
  neg-found (parens p) (suc n) zero rest le fits = absurd (omega arith)
  neg-found (parens p) (suc n) (suc depth) rest le fits = ap closed (pred-found p n depth (Close ∷ rest) (closes rest) (omega arith) (omega arith))

  conj-found : (c : Conj) (n depth : ℕ) (rest : List Token) → Lacks And rest → nest_conj c ≤ depth → 3 * length (spell_conj c rest) + 1 ≤ n → first_conj n depth (spell_conj c rest) ≡ Some (c, rest)
  conj-found c zero depth rest none le fits = absurd (omega arith)
  conj-found (one_neg x) (suc n) depth rest none le fits =
      ap (option_and_then (λ (r : Neg × List Token). conj_by r.0 r.1 (first_conj n depth (drop 1 r.1)))) (neg-found x n depth rest le (omega arith))
      ∙ conj-ends x rest (first_conj n depth (drop 1 rest)) none
  conj-found (and_then x c) (suc n) depth rest none le fits =
      ap (option_and_then (λ (r : Neg × List Token). conj_by r.0 r.1 (first_conj n depth (drop 1 r.1)))) (neg-found x n depth (And ∷ spell_conj c rest) (omega arith) (omega arith))
      ∙ ap (conj_before x) (conj-found c n depth rest none (omega arith) (omega (arith, neg-longer x (And ∷ spell_conj c rest))))

  pred-found : (p : Pred) (n depth : ℕ) (rest : List Token) → NoMore rest → nest_pred p ≤ depth → 3 * length (spell_pred p rest) + 2 ≤ n → first_pred n depth (spell_pred p rest) ≡ Some (p, rest)
  pred-found p zero depth rest none le fits = absurd (omega arith)
  pred-found (one_conj c) (suc n) depth rest none le fits =
      ap (option_and_then (λ (r : Conj × List Token). pred_by r.0 r.1 (first_pred n depth (drop 1 r.1)))) (conj-found c n depth rest none.0 le (omega arith))
      ∙ pred-ends c rest (first_pred n depth (drop 1 rest)) none.1
  pred-found (or_else c p) (suc n) depth rest none le fits =
      ap (option_and_then (λ (r : Conj × List Token). pred_by r.0 r.1 (first_pred n depth (drop 1 r.1)))) (conj-found c n depth (Or ∷ spell_pred p rest) (or-lacks _) (omega arith) (omega arith))
      ∙ ap (pred_before c) (pred-found p n depth rest none (omega arith) (omega (arith, conj-longer c (Or ∷ spell_pred p rest))))

pub tree-found : (tokens : List Token) (p : Pred) → IsSpelled tokens p → tree_of tokens ≡ Some p
tree-found tokens p h = rw h.0 (ap whole (pred-found p _ most_nested [] ends h.1 (omega arith)))

-- ---- what is found is spelled

-- a reader's answer: the words are spelled by the part and what is left, within the limit
abbrev IsNeg : ℕ → List Token → Option (Neg × List Token) → Type 0
IsNeg depth tokens found = (x : Neg) (rest : List Token) → found ≡ Some (x, rest) → (tokens ≡ spell_neg x rest) × (nest_neg x ≤ depth)

abbrev IsConj : ℕ → List Token → Option (Conj × List Token) → Type 0
IsConj depth tokens found = (c : Conj) (rest : List Token) → found ≡ Some (c, rest) → (tokens ≡ spell_conj c rest) × (nest_conj c ≤ depth)

abbrev IsPred : ℕ → List Token → Option (Pred × List Token) → Type 0
IsPred depth tokens found = (p : Pred) (rest : List Token) → found ≡ Some (p, rest) → (tokens ≡ spell_pred p rest) × (nest_pred p ≤ depth)

-- a neg behind its first word
neg-read : (depth : ℕ) (tokens : List Token) (inner : Option (Neg × List Token)) (inside : Option (Pred × List Token))
    → IsNeg (one_less depth) (drop 1 tokens) inner → IsPred (one_less depth) (drop 1 tokens) inside → IsNeg depth tokens (neg_by depth tokens inner inside)
neg-read depth [] inner inside a b x rest e = absurd (cc)
neg-read depth (Atom n ∷ tokens) inner inside a b x rest e = atom-is (cc)
  where
    atom-is : ◌≡◌ {A = Neg × List Token} (atom_neg n, tokens) (x, rest) → (Atom n ∷ tokens ≡ spell_neg x rest) × (nest_neg x ≤ depth)
    atom-is same = rw (sym (ap (λ (r : Neg × List Token). r.0) same), sym (ap (λ (r : Neg × List Token). r.1) same)) (refl, omega arith)
neg-read zero (Bang ∷ tokens) inner inside a b x rest e = absurd (cc)
neg-read (suc depth) (Bang ∷ tokens) None inside a b x rest e = absurd (cc)
neg-read (suc depth) (Bang ∷ tokens) (Some (y, more)) inside a b x rest e = bang-is (cc)
  where
    bang-is : ◌≡◌ {A = Neg × List Token} (bang y, more) (x, rest) → (Bang ∷ tokens ≡ spell_neg x rest) × (nest_neg x ≤ suc depth)
    bang-is same =
        let inner = a y more refl in
        rw (sym (ap (λ (r : Neg × List Token). r.0) same), sym (ap (λ (r : Neg × List Token). r.1) same)) (ap (λ l. Bang ∷ l) inner.0, omega (arith, inner.1))
neg-read zero (Open ∷ tokens) inner inside a b x rest e = absurd (cc)
neg-read (suc depth) (Open ∷ tokens) inner None a b x rest e = absurd (cc)
neg-read (suc depth) (Open ∷ tokens) inner (Some (p, [])) a b x rest e = absurd (cc)
neg-read (suc depth) (Open ∷ tokens) inner (Some (p, Bang ∷ more)) a b x rest e = absurd (cc)
neg-read (suc depth) (Open ∷ tokens) inner (Some (p, Open ∷ more)) a b x rest e = absurd (cc)
neg-read (suc depth) (Open ∷ tokens) inner (Some (p, And ∷ more)) a b x rest e = absurd (cc)
neg-read (suc depth) (Open ∷ tokens) inner (Some (p, Or ∷ more)) a b x rest e = absurd (cc)
neg-read (suc depth) (Open ∷ tokens) inner (Some (p, Atom n ∷ more)) a b x rest e = absurd (cc)
neg-read (suc depth) (Open ∷ tokens) inner (Some (p, Close ∷ more)) a b x rest e = parens-are (cc)
  where
    parens-are : ◌≡◌ {A = Neg × List Token} (parens p, more) (x, rest) → (Open ∷ tokens ≡ spell_neg x rest) × (nest_neg x ≤ suc depth)
    parens-are same =
        let inner = b p (Close ∷ more) refl in
        rw (sym (ap (λ (r : Neg × List Token). r.0) same), sym (ap (λ (r : Neg × List Token). r.1) same)) (ap (λ l. Open ∷ l) inner.0, omega (arith, inner.1))
neg-read depth (Close ∷ tokens) inner inside a b x rest e = absurd (cc)
neg-read depth (And ∷ tokens) inner inside a b x rest e = absurd (cc)
neg-read depth (Or ∷ tokens) inner inside a b x rest e = absurd (cc)

-- a neg, and what is read behind it
conj-alone : (depth : ℕ) (tokens before : List Token) (x : Neg) → tokens ≡ spell_neg x before → nest_neg x ≤ depth
    → (c : Conj) (rest : List Token) → ◌≡◌ {A = Conj × List Token} (one_neg x, before) (c, rest) → (tokens ≡ spell_conj c rest) × (nest_conj c ≤ depth)
conj-alone depth tokens before x is le c rest same =
    rw (sym (ap (λ (r : Conj × List Token). r.0) same), sym (ap (λ (r : Conj × List Token). r.1) same)) (is, le)

conj-read : (depth : ℕ) (tokens before : List Token) (x : Neg) (more : Option (Conj × List Token)) → tokens ≡ spell_neg x before → nest_neg x ≤ depth
    → IsConj depth (drop 1 before) more → IsConj depth tokens (conj_by x before more)
conj-read depth tokens [] x more is le m c rest e = conj-alone depth tokens [] x is le c rest (cc)
conj-read depth tokens (Atom n ∷ behind) x more is le m c rest e = conj-alone depth tokens (Atom n ∷ behind) x is le c rest (cc)
conj-read depth tokens (Bang ∷ behind) x more is le m c rest e = conj-alone depth tokens (Bang ∷ behind) x is le c rest (cc)
conj-read depth tokens (Open ∷ behind) x more is le m c rest e = conj-alone depth tokens (Open ∷ behind) x is le c rest (cc)
conj-read depth tokens (Close ∷ behind) x more is le m c rest e = conj-alone depth tokens (Close ∷ behind) x is le c rest (cc)
conj-read depth tokens (Or ∷ behind) x more is le m c rest e = conj-alone depth tokens (Or ∷ behind) x is le c rest (cc)
conj-read depth tokens (And ∷ behind) x None is le m c rest e = absurd (cc)
conj-read depth tokens (And ∷ behind) x (Some (d, left)) is le m c rest e = joined (cc)
  where
    joined : ◌≡◌ {A = Conj × List Token} (and_then x d, left) (c, rest) → (tokens ≡ spell_conj c rest) × (nest_conj c ≤ depth)
    joined same =
        let inner = m d left refl in
        rw (sym (ap (λ (r : Conj × List Token). r.0) same), sym (ap (λ (r : Conj × List Token). r.1) same)) (is ∙ ap (λ l. spell_neg x (And ∷ l)) inner.0, omega (arith, le, inner.1))

pred-alone : (depth : ℕ) (tokens before : List Token) (c : Conj) → tokens ≡ spell_conj c before → nest_conj c ≤ depth
    → (p : Pred) (rest : List Token) → ◌≡◌ {A = Pred × List Token} (one_conj c, before) (p, rest) → (tokens ≡ spell_pred p rest) × (nest_pred p ≤ depth)
pred-alone depth tokens before c is le p rest same =
    rw (sym (ap (λ (r : Pred × List Token). r.0) same), sym (ap (λ (r : Pred × List Token). r.1) same)) (is, le)

pred-read : (depth : ℕ) (tokens before : List Token) (c : Conj) (more : Option (Pred × List Token)) → tokens ≡ spell_conj c before → nest_conj c ≤ depth
    → IsPred depth (drop 1 before) more → IsPred depth tokens (pred_by c before more)
pred-read depth tokens [] c more is le m p rest e = pred-alone depth tokens [] c is le p rest (cc)
pred-read depth tokens (Atom n ∷ behind) c more is le m p rest e = pred-alone depth tokens (Atom n ∷ behind) c is le p rest (cc)
pred-read depth tokens (Bang ∷ behind) c more is le m p rest e = pred-alone depth tokens (Bang ∷ behind) c is le p rest (cc)
pred-read depth tokens (Open ∷ behind) c more is le m p rest e = pred-alone depth tokens (Open ∷ behind) c is le p rest (cc)
pred-read depth tokens (Close ∷ behind) c more is le m p rest e = pred-alone depth tokens (Close ∷ behind) c is le p rest (cc)
pred-read depth tokens (And ∷ behind) c more is le m p rest e = pred-alone depth tokens (And ∷ behind) c is le p rest (cc)
pred-read depth tokens (Or ∷ behind) c None is le m p rest e = absurd (cc)
pred-read depth tokens (Or ∷ behind) c (Some (q, left)) is le m p rest e = joined (cc)
  where
    joined : ◌≡◌ {A = Pred × List Token} (or_else c q, left) (p, rest) → (tokens ≡ spell_pred p rest) × (nest_pred p ≤ depth)
    joined same =
        let inner = m q left refl in
        rw (sym (ap (λ (r : Pred × List Token). r.0) same), sym (ap (λ (r : Pred × List Token). r.1) same)) (is ∙ ap (λ l. spell_conj c (Or ∷ l)) inner.0, omega (arith, le, inner.1))

conj-behind : (n depth : ℕ) (tokens : List Token) (found : Option (Neg × List Token)) → IsNeg depth tokens found
    → ((rest : List Token) → IsConj depth (drop 1 rest) (first_conj n depth (drop 1 rest)))
    → IsConj depth tokens (option_and_then (λ (r : Neg × List Token). conj_by r.0 r.1 (first_conj n depth (drop 1 r.1))) found)
conj-behind n depth tokens None a b c rest e = absurd (cc)
conj-behind n depth tokens (Some (x, before)) a b c rest e =
    let neg = a x before refl in conj-read depth tokens before x (first_conj n depth (drop 1 before)) neg.0 neg.1 (b before) c rest e

pred-behind : (n depth : ℕ) (tokens : List Token) (found : Option (Conj × List Token)) → IsConj depth tokens found
    → ((rest : List Token) → IsPred depth (drop 1 rest) (first_pred n depth (drop 1 rest)))
    → IsPred depth tokens (option_and_then (λ (r : Conj × List Token). pred_by r.0 r.1 (first_pred n depth (drop 1 r.1))) found)
pred-behind n depth tokens None a b p rest e = absurd (cc)
pred-behind n depth tokens (Some (c, before)) a b p rest e =
    let conj = a c before refl in pred-read depth tokens before c (first_pred n depth (drop 1 before)) conj.0 conj.1 (b before) p rest e

mutual
  neg-spelled : (n depth : ℕ) (tokens : List Token) → IsNeg depth tokens (first_neg n depth tokens)
  neg-spelled zero depth tokens x rest e = absurd (cc)
  neg-spelled (suc n) depth tokens x rest e =
      neg-read depth tokens (first_neg n (one_less depth) (drop 1 tokens)) (first_pred n (one_less depth) (drop 1 tokens)) (neg-spelled n (one_less depth) (drop 1 tokens)) (pred-spelled n (one_less depth) (drop 1 tokens)) x rest e

  conj-spelled : (n depth : ℕ) (tokens : List Token) → IsConj depth tokens (first_conj n depth tokens)
  conj-spelled zero depth tokens c rest e = absurd (cc)
  conj-spelled (suc n) depth tokens c rest e =
      conj-behind n depth tokens (first_neg n depth tokens) (neg-spelled n depth tokens) (λ behind. conj-spelled n depth (drop 1 behind)) c rest e

  pred-spelled : (n depth : ℕ) (tokens : List Token) → IsPred depth tokens (first_pred n depth tokens)
  pred-spelled zero depth tokens p rest e = absurd (cc)
  pred-spelled (suc n) depth tokens p rest e =
      pred-behind n depth tokens (first_conj n depth tokens) (conj-spelled n depth tokens) (λ behind. pred-spelled n depth (drop 1 behind)) p rest e

whole-read : (tokens : List Token) (p : Pred) (found : Option (Pred × List Token)) → IsPred most_nested tokens found → whole found ≡ Some p → IsSpelled tokens p
whole-read tokens p None h e = absurd (cc)
whole-read tokens p (Some (q, t ∷ rest)) h e = absurd (cc)
whole-read tokens p (Some (q, [])) h e = same (cc)
  where
    same : q ≡ p → IsSpelled tokens p
    same is = rw (sym is) (h q [] refl)

pub tree-spelled : (tokens : List Token) (p : Pred) → tree_of tokens ≡ Some p → IsSpelled tokens p
tree-spelled tokens p e = whole-read tokens p (first_pred (3 * length tokens + 3) most_nested tokens) (pred-spelled _ most_nested tokens) e

pub reader-is : (tokens : List Token) (p : Pred) → (tree_of tokens ≡ Some p) ↔ IsSpelled tokens p
reader-is tokens p = (tree-spelled tokens p, tree-found tokens p)

none-or : (found : Option Pred) → ((p : Pred) → found ≡ Some p → ⊥) → found ≡ None
none-or None none = refl
none-or (Some p) none = absurd (none p refl)

-- where no filter spells the words, none is read
pub no-tree : (tokens : List Token) → ((p : Pred) → IsSpelled tokens p → ⊥) → tree_of tokens ≡ None
no-tree tokens none = none-or (tree_of tokens) (λ p e. none p (tree-spelled tokens p e))
