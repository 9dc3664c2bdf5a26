-- Expressions that are read from the left, one part after another.
use Rattle.std.proofs.Common.{◌≡◌, ◌≤◌, ℕ, List, [], ◌∷◌, ◌++◌, refl, ap, arith}
use Rattle.ctl_filter.specs.declared.token.Token.{Token}
use Rattle.ctl_filter.specs.declared.token.Token.TheVariants.{And, Or}
use Rattle.ctl_filter.specs.declared.token.Step.{Step}
use Rattle.ctl_filter.specs.Grammar.{Neg, Conj, Pred, spell_neg, spell_conj, spell_pred, nest_neg, nest_conj, nest_pred, IsNoNeg, IsNoConj, IsNoPred}
use Rattle.ctl_filter.specs.Grammar.Conj.{one_neg, and_then}
use Rattle.ctl_filter.specs.Grammar.Pred.{one_conj, or_else}
use Rattle.ctl_filter.specs.Filter.{Truth, Both, Either}
use Rattle.ctl_filter.specs.Trees.{truth_of_neg, truth_of_conj, truth_of_pred, both_with, either_with}
use Rattle.ctl_filter.specs.Inside.Steps.{built}
use Rattle.ctl_filter.proofs.GrammarLemmas.{no-conj-first, no-conj-more, no-pred-first, no-pred-more}

-- a conj with one more neg at its end
abbrev pub with_neg : Conj → Neg → Conj
with_neg (one_neg x) z = and_then x (one_neg z)
with_neg (and_then x c) z = and_then x (with_neg c z)

pub spell-with_neg : (c : Conj) (z : Neg) (rest : List Token) → spell_conj (with_neg c z) rest ≡ spell_conj c (And ∷ spell_neg z rest)
spell-with_neg (one_neg x) z rest = refl
spell-with_neg (and_then x c) z rest = ap (λ l. spell_neg x (And ∷ l)) (spell-with_neg c z rest)

pub nest-with_neg : (c : Conj) (z : Neg) (depth : ℕ) → nest_conj c ≤ depth → nest_neg z ≤ depth → nest_conj (with_neg c z) ≤ depth
nest-with_neg (one_neg x) z depth a b = omega arith
nest-with_neg (and_then x c) z depth a b = let inner = nest-with_neg c z depth (omega arith) b in omega arith

both-with_neg : (front : Truth) (c : Conj) (z : Neg) → both_with front (with_neg c z) ≡ Both (both_with front c) (truth_of_neg z)
both-with_neg front (one_neg x) z = refl
both-with_neg front (and_then x c) z = both-with_neg (Both front (truth_of_neg x)) c z

pub truth-with_neg : (c : Conj) (z : Neg) → truth_of_conj (with_neg c z) ≡ Both (truth_of_conj c) (truth_of_neg z)
truth-with_neg (one_neg x) z = refl
truth-with_neg (and_then x c) z = both-with_neg (truth_of_neg x) c z

-- where no neg follows the `-a`, there is no conj
pub no-conj-after : (depth : ℕ) (tokens more : List Token) (c : Conj) → tokens ≡ spell_conj c (And ∷ more) → IsNoNeg depth more → IsNoConj depth tokens
no-conj-after depth tokens more (one_neg x) is none = no-conj-more depth tokens more x is (no-conj-first depth more none)
no-conj-after depth tokens more (and_then x c) is none =
    no-conj-more depth tokens (spell_conj c (And ∷ more)) x is (no-conj-after depth _ more c refl none)

-- a pred with one more conj at its end
abbrev pub with_conj : Pred → Conj → Pred
with_conj (one_conj c) z = or_else c (one_conj z)
with_conj (or_else c p) z = or_else c (with_conj p z)

pub spell-with_conj : (p : Pred) (z : Conj) (rest : List Token) → spell_pred (with_conj p z) rest ≡ spell_pred p (Or ∷ spell_conj z rest)
spell-with_conj (one_conj c) z rest = refl
spell-with_conj (or_else c p) z rest = ap (λ l. spell_conj c (Or ∷ l)) (spell-with_conj p z rest)

pub nest-with_conj : (p : Pred) (z : Conj) (depth : ℕ) → nest_pred p ≤ depth → nest_conj z ≤ depth → nest_pred (with_conj p z) ≤ depth
nest-with_conj (one_conj c) z depth a b = omega arith
nest-with_conj (or_else c p) z depth a b = let inner = nest-with_conj p z depth (omega arith) b in omega arith

either-with_conj : (front : Truth) (p : Pred) (z : Conj) → either_with front (with_conj p z) ≡ Either (either_with front p) (truth_of_conj z)
either-with_conj front (one_conj c) z = refl
either-with_conj front (or_else c p) z = either-with_conj (Either front (truth_of_conj c)) p z

pub truth-with_conj : (p : Pred) (z : Conj) → truth_of_pred (with_conj p z) ≡ Either (truth_of_pred p) (truth_of_conj z)
truth-with_conj (one_conj c) z = refl
truth-with_conj (or_else c p) z = either-with_conj (truth_of_conj c) p z

pub no-pred-after : (depth : ℕ) (tokens more : List Token) (p : Pred) → tokens ≡ spell_pred p (Or ∷ more) → IsNoConj depth more → IsNoPred depth tokens
no-pred-after depth tokens more (one_conj c) is none = no-pred-more depth tokens more c is (no-pred-first depth more none)
no-pred-after depth tokens more (or_else c p) is none =
    no-pred-more depth tokens (spell_pred p (Or ∷ more)) c is (no-pred-after depth _ more p refl none)

-- steps one after another
pub steps-append : (xs ys : List Step) (stack : List Truth) → built (xs ++ ys) stack ≡ built ys (built xs stack)
steps-append [] ys stack = refl
steps-append (x ∷ xs) ys stack = steps-append xs ys _
