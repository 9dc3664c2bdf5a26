use Rattle.ctl_policy.proofs.FormLemmas.{one_rises}
use Rattle.ctl_policy.proofs.form.grown.Goals as goal

pub put_version-requires : goal.put_version-requires
put_version-requires c = one_rises c.in_ok-rows.rows c.args.there.now c.args.other c.in_ok-rows.ensures
