use Rattle.std.proofs.Common.{◌∙◌, ap, is_some, arith}
use Rattle.std.proofs.Math.Logic.{∥∥₁_elim}
use Rattle.std.proofs.Math.Bool.{Bool-set}
use Rattle.regex.specs.Patterns.{find}
use Rattle.ctl_filter.proofs.RxLemmas.{rx_found}
use Rattle.ctl_filter.proofs.expression.Expression.is_match.Goals as goal

pub returns-clause-found : goal.returns-clause-found
returns-clause-found c =
    c.is_match.ensures.found ∙ ap (λ re. is_some (find re c.args.text.now 0)) c.requires
    ∙ ∥∥₁_elim c.args.self.now.read (Bool-set _ _) (λ read. rx_found c.args.self.now.regex c.args.self.now.ignores_case c.args.self.now.config read c.args.text.now (λ k. omega (arith, c.type_inv.text k)))
