-- The filter that words spell, as a function: what it comes to stands in Grammar, and a law ties the two.
use Rattle.std.specs.Prelude.{ℕ, zero, suc, ◌+◌, ◌*◌, List, [], ◌∷◌, drop, length, Option, None, Some, Result, Ok, Err}
use Rattle.std.specs.Option.{option_and_then}
use Rattle.ctl_store.specs.declared.refusal.Refusal.{Refusal}
use Rattle.ctl_store.specs.declared.refusal.Refusal.TheVariants as refusal
use Rattle.ctl_filter.specs.declared.token.Token.{Token}
use Rattle.ctl_filter.specs.declared.token.Token.TheVariants.{Bang, Open, Close, And, Or, Atom}
use Rattle.ctl_filter.specs.Grammar.{Neg, Conj, Pred, most_nested}
use Rattle.ctl_filter.specs.Grammar.Neg.{atom_neg, bang, parens}
use Rattle.ctl_filter.specs.Grammar.Conj.{one_neg, and_then}
use Rattle.ctl_filter.specs.Grammar.Pred.{one_conj, or_else}
use Rattle.ctl_filter.specs.Filter.{Truth, Value, Not, Both, Either}

-- ---- reading from the left: a part, and the words behind it

abbrev pub banged : Option (Neg × List Token) → Option (Neg × List Token)
banged None = None
banged (Some (x, rest)) = Some (bang x, rest)

abbrev pub closed : Option (Pred × List Token) → Option (Neg × List Token)
closed None = None
closed (Some (p, [])) = None
closed (Some (p, Close ∷ rest)) = Some (parens p, rest)
closed (Some (p, Bang ∷ rest)) = None
closed (Some (p, Open ∷ rest)) = None
closed (Some (p, And ∷ rest)) = None
closed (Some (p, Or ∷ rest)) = None
closed (Some (p, Atom n ∷ rest)) = None

-- a neg, where what stands behind its first word is a neg, or a pred
abbrev pub neg_by : ℕ → List Token → Option (Neg × List Token) → Option (Pred × List Token) → Option (Neg × List Token)
neg_by depth [] inner inside = None
neg_by depth (Atom n ∷ rest) inner inside = Some (atom_neg n, rest)
neg_by zero (Bang ∷ rest) inner inside = None
neg_by (suc depth) (Bang ∷ rest) inner inside = banged inner
neg_by zero (Open ∷ rest) inner inside = None
neg_by (suc depth) (Open ∷ rest) inner inside = closed inside
neg_by depth (Close ∷ rest) inner inside = None
neg_by depth (And ∷ rest) inner inside = None
neg_by depth (Or ∷ rest) inner inside = None

abbrev pub conj_before : Neg → Option (Conj × List Token) → Option (Conj × List Token)
conj_before x None = None
conj_before x (Some (c, rest)) = Some (and_then x c, rest)

-- a neg and what stands behind its `-a`, or a neg alone
abbrev pub conj_by : Neg → List Token → Option (Conj × List Token) → Option (Conj × List Token)
conj_by x [] more = Some (one_neg x, [])
conj_by x (And ∷ rest) more = conj_before x more
conj_by x (Atom n ∷ rest) more = Some (one_neg x, Atom n ∷ rest)
conj_by x (Bang ∷ rest) more = Some (one_neg x, Bang ∷ rest)
conj_by x (Open ∷ rest) more = Some (one_neg x, Open ∷ rest)
conj_by x (Close ∷ rest) more = Some (one_neg x, Close ∷ rest)
conj_by x (Or ∷ rest) more = Some (one_neg x, Or ∷ rest)

abbrev pub pred_before : Conj → Option (Pred × List Token) → Option (Pred × List Token)
pred_before c None = None
pred_before c (Some (p, rest)) = Some (or_else c p, rest)

-- a conj and what stands behind its `-o`, or a conj alone
abbrev pub pred_by : Conj → List Token → Option (Pred × List Token) → Option (Pred × List Token)
pred_by c [] more = Some (one_conj c, [])
pred_by c (Or ∷ rest) more = pred_before c more
pred_by c (Atom n ∷ rest) more = Some (one_conj c, Atom n ∷ rest)
pred_by c (Bang ∷ rest) more = Some (one_conj c, Bang ∷ rest)
pred_by c (Open ∷ rest) more = Some (one_conj c, Open ∷ rest)
pred_by c (Close ∷ rest) more = Some (one_conj c, Close ∷ rest)
pred_by c (And ∷ rest) more = Some (one_conj c, And ∷ rest)

abbrev pub one_less : ℕ → ℕ
one_less zero = zero
one_less (suc n) = n

-- The first number bounds how many parts are read, one within another or one after another.
abbrev mutual
  pub first_neg : ℕ → ℕ → List Token → Option (Neg × List Token)
  first_neg zero depth tokens = None
  first_neg (suc n) depth tokens =
      neg_by depth tokens (first_neg n (one_less depth) (drop 1 tokens)) (first_pred n (one_less depth) (drop 1 tokens))

  pub first_conj : ℕ → ℕ → List Token → Option (Conj × List Token)
  first_conj zero depth tokens = None
  first_conj (suc n) depth tokens =
      option_and_then (λ (r : Neg × List Token). conj_by r.0 r.1 (first_conj n depth (drop 1 r.1))) (first_neg n depth tokens)

  pub first_pred : ℕ → ℕ → List Token → Option (Pred × List Token)
  first_pred zero depth tokens = None
  first_pred (suc n) depth tokens =
      option_and_then (λ (r : Conj × List Token). pred_by r.0 r.1 (first_pred n depth (drop 1 r.1))) (first_conj n depth tokens)

-- all words are used up
abbrev pub whole : Option (Pred × List Token) → Option Pred
whole None = None
whole (Some (p, [])) = Some p
whole (Some (p, t ∷ rest)) = None

-- the filter that words spell, if they are a filter's
abbrev pub tree_of : List Token → Option Pred
tree_of tokens = whole (first_pred (3 * length tokens + 3) most_nested tokens)

-- ---- its truth

-- Of negs and of conjs the first two are taken, and then what comes of them with the next.
abbrev mutual
  pub truth_of_neg : Neg → Truth
  truth_of_neg (atom_neg n) = Value n
  truth_of_neg (bang x) = Not (truth_of_neg x)
  truth_of_neg (parens p) = truth_of_pred p

  pub truth_of_conj : Conj → Truth
  truth_of_conj (one_neg x) = truth_of_neg x
  truth_of_conj (and_then x c) = both_with (truth_of_neg x) c

  pub both_with : Truth → Conj → Truth
  both_with front (one_neg x) = Both front (truth_of_neg x)
  both_with front (and_then x c) = both_with (Both front (truth_of_neg x)) c

  pub truth_of_pred : Pred → Truth
  truth_of_pred (one_conj c) = truth_of_conj c
  truth_of_pred (or_else c p) = either_with (truth_of_conj c) p

  pub either_with : Truth → Pred → Truth
  either_with front (one_conj c) = Either front (truth_of_conj c)
  either_with front (or_else c p) = either_with (Either front (truth_of_conj c)) p

abbrev pub truth_if : Option Pred → Result Truth Refusal
truth_if None = Err refusal.Filter
truth_if (Some p) = Ok (truth_of_pred p)

-- the truth that words spell
abbrev pub truth_of : List Token → Result Truth Refusal
truth_of tokens = truth_if (tree_of tokens)
