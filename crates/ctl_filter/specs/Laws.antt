-- The laws in plain words.
use Rattle.std.specs.Prelude.{◌≡◌, ◌↔◌, ℕ, Bool, ◌&&◌, ◌||◌, not, List, Some}
use Rattle.ctl_filter.specs.declared.token.Token.{Token}
use Rattle.ctl_filter.specs.Grammar.{Neg, Conj, Pred, IsSpelled}
use Rattle.ctl_filter.specs.Grammar.Neg.{atom_neg, bang, parens}
use Rattle.ctl_filter.specs.Grammar.Conj.{one_neg, and_then}
use Rattle.ctl_filter.specs.Grammar.Pred.{one_conj, or_else}
use Rattle.ctl_filter.specs.Trees.{tree_of, truth_of_neg, truth_of_conj, truth_of_pred}
use Rattle.ctl_filter.specs.Filter.{value_at, is_true}

-- words are a filter's where it spells them within the limit, and then it is the only one
abbrev pub IsReader : Type 0
IsReader = (tokens : List Token) (p : Pred) → (tree_of tokens ≡ Some p) ↔ IsSpelled tokens p

-- The truth of a filter under values of its atoms: `-a` of a neg and what follows, `-o` of a conj and what follows.
pub record TruthByCases (values : List Bool) : Type 0 where
  pub atom : (n : ℕ) → is_true values (truth_of_neg (atom_neg n)) ≡ value_at values n
  pub bang : (x : Neg) → is_true values (truth_of_neg (bang x)) ≡ not (is_true values (truth_of_neg x))
  pub parens : (p : Pred) → is_true values (truth_of_neg (parens p)) ≡ is_true values (truth_of_pred p)
  pub one_neg : (x : Neg) → is_true values (truth_of_conj (one_neg x)) ≡ is_true values (truth_of_neg x)
  pub and_then : (x : Neg) (c : Conj)
      → is_true values (truth_of_conj (and_then x c)) ≡ (is_true values (truth_of_neg x) && is_true values (truth_of_conj c))
  pub one_conj : (c : Conj) → is_true values (truth_of_pred (one_conj c)) ≡ is_true values (truth_of_conj c)
  pub or_else : (c : Conj) (p : Pred)
      → is_true values (truth_of_pred (or_else c p)) ≡ (is_true values (truth_of_conj c) || is_true values (truth_of_pred p))
