use Rattle.std.proofs.Common.{subst}
use Rattle.ctl_policy.specs.Kept.{HasTaken}
use Rattle.ctl_policy.specs.Inside.HeldRows.{rows_of_form}
use Rattle.ctl_policy.proofs.ShownLemmas.{take_shown, take_formed}
use Rattle.ctl_policy.proofs.rows.Rows.take.Goals as goal

pub invariant_of-self : goal.invariant_of-self
invariant_of-self c = take_formed c.self.inside.form c.take_from_form.new.form c.args.version.now c.args.key c.take_from_form.ensures c.self.invariant

pub returns : goal.returns
returns c = subst (λ r. HasTaken c.args.version.now c.args.key r (rows_of_form c.take_from_form.new.form)) c.self.view_is (take_shown c.self.inside.form c.take_from_form.new.form c.args.version.now c.args.key c.take_from_form.ensures)
