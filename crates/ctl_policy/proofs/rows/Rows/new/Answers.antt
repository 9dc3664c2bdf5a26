use Rattle.std.specs.FinMap as fin
use Rattle.ctl_relation.specs.Version.{version_cmp}
use Rattle.ctl_policy.proofs.rows.Rows.new.Goals as goal

pub returns : goal.returns
returns c = λ v. fin.get-empty version_cmp v
