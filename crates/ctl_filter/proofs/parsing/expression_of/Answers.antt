use Rattle.std.proofs.Common.{◌∙◌}
use Rattle.ctl_filter.specs.Filter as asked
use Rattle.ctl_filter.proofs.parsing.expression_of.Goals as goal

pub returns-clause-ok : goal.returns-clause-ok
returns-clause-ok c = (
  c.in_ok-test.ensures ∙ (λ i. asked.Expression (c.in_ok-expression.ensures.case i) (c.in_ok-expression.ensures.bytes i)),
  c.in_ok-expression.ensures.well_formed,
)
