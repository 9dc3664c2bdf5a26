use Rattle.std.proofs.Common.{subst}
use Rattle.ctl_policy.specs.Inside.HeldRows.{IsFormed}
use Rattle.ctl_policy.proofs.form.put_in_form.Goals as goal

pub put_version-requires : goal.put_version-requires
put_version-requires c = subst IsFormed c.in-Many.is c.requires
