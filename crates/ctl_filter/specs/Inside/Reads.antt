-- What a reader of expressions answers.
use Rattle.std.specs.Prelude.{◌≡◌, ◌≤◌, ◌⊎◌, ℕ, List, ◌++◌, Vec, Result, Ok, Err}
use Rattle.ctl_store.specs.declared.refusal.Refusal.{Refusal}
use Rattle.ctl_store.specs.declared.refusal.Refusal.TheVariants as refusal
use Rattle.ctl_filter.specs.declared.token.Token.{Token}
use Rattle.ctl_filter.specs.declared.token.Step.{Step}
use Rattle.ctl_filter.specs.Grammar.{Neg, Conj, Pred, spell_neg, spell_conj, spell_pred, nest_neg, nest_conj, nest_pred}
use Rattle.ctl_filter.specs.Filter.{Truth}
use Rattle.ctl_filter.specs.Trees.{truth_of_neg, truth_of_conj, truth_of_pred}
use Rattle.ctl_filter.specs.Inside.Steps.{Makes}

-- the words are those of a neg within the limit, and then the rest; the steps added make its truth
pub record ReadsNeg (depth : ℕ) (tokens rest : List Token) (old new : List Step) : Type 0 where
  pub read : Neg
  pub steps : List Step
  pub spelled : tokens ≡ spell_neg read rest
  pub nested : nest_neg read ≤ depth
  pub added : new ≡ old ++ steps
  pub makes : Makes steps (truth_of_neg read)

pub record ReadsConj (depth : ℕ) (tokens rest : List Token) (old new : List Step) : Type 0 where
  pub read : Conj
  pub steps : List Step
  pub spelled : tokens ≡ spell_conj read rest
  pub nested : nest_conj read ≤ depth
  pub added : new ≡ old ++ steps
  pub makes : Makes steps (truth_of_conj read)

pub record ReadsPred (depth : ℕ) (tokens rest : List Token) (old new : List Step) : Type 0 where
  pub read : Pred
  pub steps : List Step
  pub spelled : tokens ≡ spell_pred read rest
  pub nested : nest_pred read ≤ depth
  pub added : new ≡ old ++ steps
  pub makes : Makes steps (truth_of_pred read)

-- Steps were read that make this truth, or it is refused as the definition says, or memory ran out.
abbrev pub ReadsTruth : {A : Type 0} → Result (Vec Step A) Refusal → Result Truth Refusal → Type 0
ReadsTruth (Ok steps) asked = (truth : Truth) × (asked ≡ Ok truth) × Makes steps.items truth
ReadsTruth (Err cause) asked = (asked ≡ Err cause) ⊎ (cause ≡ refusal.Memory)
