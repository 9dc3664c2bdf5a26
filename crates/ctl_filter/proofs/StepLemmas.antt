-- The value that steps leave is that of the truth which they make.
use Rattle.std.proofs.Common.{◌≡◌, ◌∙◌, Bool, List, [], ◌∷◌, map, refl, ap}
use Rattle.ctl_filter.specs.declared.token.Step.{Step}
use Rattle.ctl_filter.specs.declared.token.Step.TheVariants as step
use Rattle.ctl_filter.specs.Filter.{Truth, is_true}
use Rattle.ctl_filter.specs.Inside.Steps.{after_step, after_steps, top, value_of, built_by, built, made_by, Makes}

one-step : (values : List Bool) (s : Step) (stack : List Truth) → after_step values s (map (is_true values) stack) ≡ map (is_true values) (built_by s stack)
one-step values (step.Value n) stack = refl
one-step values step.Not [] = refl
one-step values step.Not (x ∷ stack) = refl
one-step values step.Both [] = refl
one-step values step.Both (x ∷ []) = refl
one-step values step.Both (x ∷ y ∷ stack) = refl
one-step values step.Either [] = refl
one-step values step.Either (x ∷ []) = refl
one-step values step.Either (x ∷ y ∷ stack) = refl

all-steps : (values : List Bool) (steps : List Step) (stack : List Truth) → after_steps values steps (map (is_true values) stack) ≡ map (is_true values) (built steps stack)
all-steps values [] stack = refl
all-steps values (s ∷ steps) stack = ap (after_steps values steps) (one-step values s stack) ∙ all-steps values steps (built_by s stack)

pub value-made : (values : List Bool) (steps : List Step) → Makes steps (made_by steps) → value_of steps values ≡ is_true values (made_by steps)
value-made values steps makes = ap top (all-steps values steps [] ∙ ap (map (is_true values)) (makes []))
