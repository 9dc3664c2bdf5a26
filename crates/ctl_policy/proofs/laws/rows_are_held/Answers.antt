use Rattle.ctl_policy.proofs.TouchLemmas.{rows_held, version_held}
use Rattle.ctl_policy.proofs.laws.rows_are_held.Goals as goal

pub returns-clause-rows : goal.returns-clause-rows
returns-clause-rows c = rows_held

pub returns-clause-version : goal.returns-clause-version
returns-clause-version c = version_held
