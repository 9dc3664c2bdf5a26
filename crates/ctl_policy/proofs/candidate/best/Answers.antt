use Rattle.std.proofs.Common.{ap, sym, subst, option_map, option_copied, ◌∙◌}
use Rattle.ctl_relation.specs.Version.{triple_of}
use Rattle.ctl_policy.specs.Rows.{newest_first}
use Rattle.ctl_policy.specs.Priority.{world_of, row_priority}
use Rattle.ctl_policy.specs.Candidate.{best_of}
use Rattle.ctl_policy.specs.Inside.HeldRows.{rows_of_form, IsOrderedForm}
use Rattle.ctl_policy.specs.declared.form.Form.TheVariants.{Empty, One, Many}
use Rattle.ctl_policy.proofs.ShownLemmas.{rows_shown}
use Rattle.ctl_policy.proofs.candidate.best.Goals as goal

pub returns-in-Empty : goal.returns-in-Empty
returns-in-Empty c =
    let best = best_of (row_priority c.args.name.now (world_of c.args.store.now)) (option_map triple_of (option_copied c.args.installed)) in
    ap best (rows_shown Empty tt) ∙ ap (λ f. best (newest_first (rows_of_form f))) (sym c.in-Empty.is)

pub returns-in-One : goal.returns-in-One
returns-in-One c =
    let best = best_of (row_priority c.args.name.now (world_of c.args.store.now)) (option_map triple_of (option_copied c.args.installed)) in
    c.best_of_one.ensures
    ∙ ap best (rows_shown (One c.in-One.version c.in-One.key) tt) ∙ ap (λ f. best (newest_first (rows_of_form f))) (sym c.in-One.is)

pub returns-in-Many : goal.returns-in-Many
returns-in-Many c =
    let best = best_of (row_priority c.args.name.now (world_of c.args.store.now)) (option_map triple_of (option_copied c.args.installed)) in
    c.best_in_map.ensures ∙ ap best (rows_shown (Many c.in-Many.map) (subst IsOrderedForm c.in-Many.is c.requires.ordered)) ∙ ap (λ f. best (newest_first (rows_of_form f))) (sym c.in-Many.is)
