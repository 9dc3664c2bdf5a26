use Rattle.std.proofs.Common.{None, cond, option_map, ap, ◌∙◌}
use Rattle.std.specs.Ordering.{is_eq}
use Rattle.ctl_relation.specs.Version.{version_cmp}
use Rattle.ctl_policy.specs.Inside.HeldRows.{row_in_map}
use Rattle.ctl_policy.specs.Keys.{without_key}
use Rattle.ctl_policy.proofs.RowLemmas.{updates_row, row_gone, cond_both}
use Rattle.ctl_policy.proofs.by_version.take_version.Goals as goal

pub returns-then-take_and_leave : goal.returns-then-take_and_leave
returns-then-take_and_leave c =
    let v = c.args.version.now in
    let m = c.args.rows.now in
    let f = without_key c.args.key in
    λ q.
    updates_row v c.take_and_leave.new.rows c.remove.new.self None c.remove.ensures.updates q
    ∙ ap (cond (is_eq (version_cmp v q)) None) (c.take_and_leave.ensures.rows q)
    ∙ cond_both (is_eq (version_cmp v q)) None (option_map f (row_in_map m v)) (row_in_map m q)
    ∙ ap (λ o. cond (is_eq (version_cmp v q)) o (row_in_map m q)) (row_gone f (row_in_map m v) c.if-take_and_leave.ensures.left)
