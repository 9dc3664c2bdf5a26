use Rattle.std.proofs.Common.{◌≡◌, [], reverse, drop}
use Rattle.ctl_filter.specs.Inside.Steps.{after_steps}
use Rattle.ctl_filter.proofs.running.value_of.Given as goal

-- the steps that are left take the stack to what all take the empty stack to
abbrev pub invariant-loop-step : goal.invariant-loop-step
invariant-loop-step l = after_steps l.values (drop l.step-index l.steps) (reverse l.stack.items) ≡ after_steps l.values l.steps []
