-- The truth of a filter by cases.
use Rattle.std.proofs.Common.{◌≡◌, ◌∙◌, ◌&&◌, ◌||◌, Bool, true, false, List, refl, ap, sym}
use Rattle.ctl_filter.specs.Grammar.{Conj, Pred}
use Rattle.ctl_filter.specs.Grammar.Conj.{one_neg, and_then}
use Rattle.ctl_filter.specs.Grammar.Pred.{one_conj, or_else}
use Rattle.ctl_filter.specs.Filter.{Truth, Both, Either, is_true}
use Rattle.ctl_filter.specs.Trees.{truth_of_neg, truth_of_conj, truth_of_pred, both_with, either_with}
use Rattle.ctl_filter.specs.Laws.{TruthByCases}

pub and-assoc : (a b c : Bool) → ((a && b) && c) ≡ (a && (b && c))
and-assoc true b c = refl
and-assoc false b c = refl

or-assoc : (a b c : Bool) → ((a || b) || c) ≡ (a || (b || c))
or-assoc true b c = refl
or-assoc false b c = refl

both-true : (values : List Bool) (front : Truth) (c : Conj) → is_true values (both_with front c) ≡ (is_true values front && is_true values (truth_of_conj c))
both-true values front (one_neg x) = refl
both-true values front (and_then x c) =
    both-true values (Both front (truth_of_neg x)) c ∙ and-assoc (is_true values front) (is_true values (truth_of_neg x)) (is_true values (truth_of_conj c))
    ∙ ap (λ b. is_true values front && b) (sym (both-true values (truth_of_neg x) c))

either-true : (values : List Bool) (front : Truth) (p : Pred) → is_true values (either_with front p) ≡ (is_true values front || is_true values (truth_of_pred p))
either-true values front (one_conj c) = refl
either-true values front (or_else c p) =
    either-true values (Either front (truth_of_conj c)) p ∙ or-assoc (is_true values front) (is_true values (truth_of_conj c)) (is_true values (truth_of_pred p))
    ∙ ap (λ b. is_true values front || b) (sym (either-true values (truth_of_conj c) p))

pub truth-by-cases : (values : List Bool) → TruthByCases values
truth-by-cases values = record {
  atom = λ n. refl;
  bang = λ x. refl;
  parens = λ p. refl;
  one_neg = λ x. refl;
  and_then = λ x c. both-true values (truth_of_neg x) c;
  one_conj = λ c. refl;
  or_else = λ c p. either-true values (truth_of_conj c) p;
}
