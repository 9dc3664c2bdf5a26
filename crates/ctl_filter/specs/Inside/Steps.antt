-- How a truth is held: as steps for a stack.
use Rattle.std.specs.Prelude.{◌≡◌, Bool, false, not, ◌&&◌, ◌||◌, List, [], ◌∷◌}
use Rattle.ctl_filter.specs.declared.token.Step.{Step}
use Rattle.ctl_filter.specs.declared.token.Step.TheVariants as step
use Rattle.ctl_filter.specs.Filter.{Truth, Value, Not, Both, Either, value_at}

-- ---- values

-- the stack after a step, its top first
abbrev pub after_step : List Bool → Step → List Bool → List Bool
after_step values (step.Value n) stack = value_at values n ∷ stack
after_step values step.Not [] = []
after_step values step.Not (v ∷ stack) = not v ∷ stack
after_step values step.Both [] = []
after_step values step.Both (v ∷ []) = v ∷ []
after_step values step.Both (v ∷ w ∷ stack) = (w && v) ∷ stack
after_step values step.Either [] = []
after_step values step.Either (v ∷ []) = v ∷ []
after_step values step.Either (v ∷ w ∷ stack) = (w || v) ∷ stack

-- the stack after steps
abbrev pub after_steps : List Bool → List Step → List Bool → List Bool
after_steps values [] stack = stack
after_steps values (s ∷ steps) stack = after_steps values steps (after_step values s stack)

abbrev pub top : List Bool → Bool
top [] = false
top (v ∷ stack) = v

-- the value that the steps leave on an empty stack
abbrev pub value_of : List Step → List Bool → Bool
value_of steps values = top (after_steps values steps [])

-- ---- truths, by the same steps

abbrev pub built_by : Step → List Truth → List Truth
built_by (step.Value n) stack = Value n ∷ stack
built_by step.Not [] = []
built_by step.Not (x ∷ stack) = Not x ∷ stack
built_by step.Both [] = []
built_by step.Both (x ∷ []) = x ∷ []
built_by step.Both (x ∷ y ∷ stack) = Both y x ∷ stack
built_by step.Either [] = []
built_by step.Either (x ∷ []) = x ∷ []
built_by step.Either (x ∷ y ∷ stack) = Either y x ∷ stack

abbrev pub built : List Step → List Truth → List Truth
built [] stack = stack
built (s ∷ steps) stack = built steps (built_by s stack)

abbrev pub first_or : Truth → List Truth → Truth
first_or other [] = other
first_or other (x ∷ stack) = x

-- the truth that the steps make
abbrev pub made_by : List Step → Truth
made_by steps = first_or (Value 0) (built steps [])

-- they make one truth, whatever stands on the stack
abbrev pub Makes : List Step → Truth → Type 0
Makes steps truth = (stack : List Truth) → built steps stack ≡ truth ∷ stack
