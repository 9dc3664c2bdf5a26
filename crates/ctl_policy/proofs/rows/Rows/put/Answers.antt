use Rattle.std.proofs.Common.{subst}
use Rattle.ctl_policy.specs.Kept.{HasPut, HasSame}
use Rattle.ctl_policy.specs.Inside.HeldRows.{rows_of_form}
use Rattle.ctl_policy.proofs.ShownLemmas.{put_shown, put_formed, same_shown, same_formed, on_ok_map, on_err_map, either_way}
use Rattle.ctl_policy.proofs.rows.Rows.put.Goals as goal

pub invariant_of-self : goal.invariant_of-self
invariant_of-self c =
    let old = c.self.inside.form in
    let new = c.put_in_form.new.form in
    either_way c.put_in_form.result (λ h. put_formed old new c.args.version.now c.args.key h c.self.invariant) (λ h. same_formed old new h c.self.invariant) c.put_in_form.ensures.ok c.put_in_form.ensures.err

pub returns-clause-ok : goal.returns-clause-ok
returns-clause-ok c =
    let old = c.self.inside.form in
    let new = c.put_in_form.new.form in
    on_ok_map c.put_in_form.result (λ h. subst (λ r. HasPut c.args.version.now c.args.key r (rows_of_form new)) c.self.view_is (put_shown old new c.args.version.now c.args.key h)) c.put_in_form.ensures.ok

pub returns-clause-err : goal.returns-clause-err
returns-clause-err c =
    let old = c.self.inside.form in
    let new = c.put_in_form.new.form in
    on_err_map c.put_in_form.result (λ h. subst (λ r. HasSame r (rows_of_form new)) c.self.view_is (same_shown old new h)) c.put_in_form.ensures.err
