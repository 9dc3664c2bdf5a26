use Rattle.std.proofs.Common.{ap, sym, subst, map, ◌∙◌}
use Rattle.ctl_policy.specs.Rows.{keys_of_row, newest_first}
use Rattle.ctl_policy.specs.Inside.HeldRows.{rows_of_form, IsOrderedForm}
use Rattle.ctl_policy.specs.Inside.HeldIter.{items_left}
use Rattle.ctl_policy.proofs.ShownLemmas.{empty_left, one_is_left, many_left}
use Rattle.ctl_policy.proofs.newest.NewestFirst.new.Goals as goal

pub returns-in-Empty : goal.returns-in-Empty
returns-in-Empty c = empty_left ∙ ap (λ f. map keys_of_row (newest_first (rows_of_form f))) (sym c.in-Empty.is)

pub returns-in-One : goal.returns-in-One
returns-in-One c = one_is_left c.in-One.field-0 c.in-One.key ∙ ap (λ f. map keys_of_row (newest_first (rows_of_form f))) (sym c.in-One.is)

pub returns-in-Many : goal.returns-in-Many
returns-in-Many c = ap items_left c.iter.ensures.rest ∙ many_left c.in-Many.map (subst IsOrderedForm c.in-Many.is c.requires) ∙ ap (λ f. map keys_of_row (newest_first (rows_of_form f))) (sym c.in-Many.is)
