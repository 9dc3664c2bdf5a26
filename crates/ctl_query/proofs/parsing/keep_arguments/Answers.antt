use Rattle.std.proofs.Common.{rules}
use Rattle.std.proofs.lemmas.Fn.{filter_same}
use Rattle.ctl_query.proofs.parsing.keep_arguments.Goals as goal

pub returns : goal.returns
returns c = filter_same _ _ _ (λ w b f call. search rules) _ _ c.retain.ensures.filtered
