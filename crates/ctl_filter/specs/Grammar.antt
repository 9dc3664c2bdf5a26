-- The grammar of expressions, by their parts; the words that spell each; how deep it nests.
use Rattle.std.specs.Prelude.{◌≡◌, ◌≤◌, ℕ, suc, List, [], ◌∷◌, max, Option, MatchOption}
use Rattle.std.specs.Borrow.{Bor}
use Rattle.ctl_filter.specs.declared.token.Token.{Token}
use Rattle.ctl_filter.specs.declared.token.Token.TheVariants.{Bang, Open, Close, And, Or, Atom}

mutual
  -- neg = "!" neg | "(" pred ")" | atom
  pub data Neg : Type 0 where
    atom_neg : ℕ → Neg
    bang : Neg → Neg
    parens : Pred → Neg

  -- conj = neg { -a neg }
  pub data Conj : Type 0 where
    one_neg : Neg → Conj
    and_then : Neg → Conj → Conj

  -- pred = conj { -o conj }
  pub data Pred : Type 0 where
    one_conj : Conj → Pred
    or_else : Conj → Pred → Pred

-- the words of an expression, before the words that follow
abbrev mutual
  pub spell_neg : Neg → List Token → List Token
  spell_neg (atom_neg n) rest = Atom n ∷ rest
  spell_neg (bang x) rest = Bang ∷ spell_neg x rest
  spell_neg (parens p) rest = Open ∷ spell_pred p (Close ∷ rest)

  pub spell_conj : Conj → List Token → List Token
  spell_conj (one_neg x) rest = spell_neg x rest
  spell_conj (and_then x c) rest = spell_neg x (And ∷ spell_conj c rest)

  pub spell_pred : Pred → List Token → List Token
  spell_pred (one_conj c) rest = spell_conj c rest
  spell_pred (or_else c p) rest = spell_conj c (Or ∷ spell_pred p rest)

-- how deep `(` and `!` nest
abbrev mutual
  pub nest_neg : Neg → ℕ
  nest_neg (atom_neg n) = 0
  nest_neg (bang x) = suc (nest_neg x)
  nest_neg (parens p) = suc (nest_pred p)

  pub nest_conj : Conj → ℕ
  nest_conj (one_neg x) = nest_neg x
  nest_conj (and_then x c) = max (nest_neg x) (nest_conj c)

  pub nest_pred : Pred → ℕ
  nest_pred (one_conj c) = nest_conj c
  nest_pred (or_else c p) = max (nest_conj c) (nest_pred p)

-- the words don't go on with this one
abbrev pub Lacks : Token → List Token → Type 0
Lacks t tokens = (rest : List Token) → tokens ≡ t ∷ rest → ⊥

-- neither `-a` nor `-o` follows
abbrev pub NoMore : List Token → Type 0
NoMore tokens = Lacks And tokens × Lacks Or tokens

-- what `after` answers: the words after this one, or that they go on otherwise
abbrev pub IsAfter : Token → List Token → Option (Bor (List Token)) → Type 0
IsAfter t tokens r = MatchOption r (Lacks t tokens) (λ rest. tokens ≡ t ∷ rest.now)

-- no front of the words is a neg within the limit; or a conj that no `-a` follows; or a pred that neither follows
abbrev pub IsNoNeg : ℕ → List Token → Type 0
IsNoNeg depth tokens = (x : Neg) (rest : List Token) → nest_neg x ≤ depth → tokens ≡ spell_neg x rest → ⊥

abbrev pub IsNoConj : ℕ → List Token → Type 0
IsNoConj depth tokens = (c : Conj) (rest : List Token) → Lacks And rest → nest_conj c ≤ depth → tokens ≡ spell_conj c rest → ⊥

abbrev pub IsNoPred : ℕ → List Token → Type 0
IsNoPred depth tokens = (p : Pred) (rest : List Token) → NoMore rest → nest_pred p ≤ depth → tokens ≡ spell_pred p rest → ⊥

-- how deep a filter may nest
abbrev pub most_nested : ℕ
most_nested = 100

-- These are the words of a filter: it spells them, and nests within the limit.
abbrev pub IsSpelled : List Token → Pred → Type 0
IsSpelled tokens p = (tokens ≡ spell_pred p []) × (nest_pred p ≤ most_nested)
