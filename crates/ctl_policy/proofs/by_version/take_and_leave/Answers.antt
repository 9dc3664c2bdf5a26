use Rattle.std.proofs.Common.{option_map, ap, ◌∙◌}
use Rattle.ctl_policy.specs.Inside.HeldRows.{row_in_map}
use Rattle.ctl_policy.specs.Keys.{without_key}
use Rattle.ctl_policy.proofs.RowLemmas.{row_absent, items_of}
use Rattle.ctl_policy.proofs.by_version.take_and_leave.Goals as goal

pub returns-in-None-clause-rows : goal.returns-in-None-clause-rows
returns-in-None-clause-rows c = λ q. ap (λ l. row_in_map l q) c.get_mut.follows.holds-at-none ∙ row_absent (without_key c.args.key) c.args.version.now q c.args.rows.now (ap (option_map items_of) c.in-None.ensures.value)
