use Rattle.std.proofs.Common.{◌∙◌}
use Rattle.ctl_policy.specs.Chosen.{no_choice}
use Rattle.ctl_index.proofs.NameLemmas.{own_by}
use Rattle.ctl_index.proofs.RowLemmas.{none_there}
use Rattle.ctl_index.proofs.named.ChosenRows.none.Goals as goal

pub returns : goal.returns
returns c = c.of_rows.ensures ∙ (λ i. own_by (none_there c.new.result c.new.ensures i) no_choice)
