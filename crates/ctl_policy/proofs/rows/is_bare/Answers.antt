use Rattle.std.proofs.Common.{ap, sym, subst, [], ◌≡◌, ◌∙◌}
use Rattle.std.specs.Bool.{OnTrue, OnFalse}
use Rattle.ctl_policy.specs.Rows.{newest_first}
use Rattle.ctl_policy.specs.Inside.HeldRows.{rows_of_form, IsOrderedForm}
use Rattle.ctl_policy.specs.declared.form.Form.TheVariants.{Empty}
use Rattle.ctl_policy.proofs.ShownLemmas.{rows_shown, one_there, bare_many, filled_many}
use Rattle.ctl_policy.proofs.rows.is_bare.Goals as goal

pub returns-in-Empty-clause-none : goal.returns-in-Empty-clause-none
returns-in-Empty-clause-none c = ap (λ f. newest_first (rows_of_form f)) c.in-Empty.is ∙ sym (rows_shown Empty tt)

pub returns-in-One-clause-some : goal.returns-in-One-clause-some
returns-in-One-clause-some c = λ e. one_there c.in-One.field-0 c.in-One.field-1 (sym (ap (λ f. newest_first (rows_of_form f)) c.in-One.is) ∙ e)

pub returns-in-Many-clause-none : goal.returns-in-Many-clause-none
returns-in-Many-clause-none c = subst (λ f. OnTrue c.is_empty.result (newest_first (rows_of_form f) ≡ [])) (sym c.in-Many.is) (bare_many c.in-Many.map c.is_empty.result (subst IsOrderedForm c.in-Many.is c.requires) c.is_empty.ensures)

pub returns-in-Many-clause-some : goal.returns-in-Many-clause-some
returns-in-Many-clause-some c = subst (λ f. OnFalse c.is_empty.result (newest_first (rows_of_form f) ≡ [] → ⊥)) (sym c.in-Many.is) (filled_many c.in-Many.map c.is_empty.result (subst IsOrderedForm c.in-Many.is c.requires) c.is_empty.ensures)
