use Rattle.std.proofs.Common.{subst, ap, sym, ◌∙◌}
use Rattle.ctl_policy.specs.Inside.HeldRows.{form_at, form_without, IsFormed}
use Rattle.ctl_policy.proofs.FormLemmas.{on_true, on_false, one_gone, one_stays}
use Rattle.ctl_policy.proofs.form.take_and_tell.Goals as goal

pub take_version-requires : goal.take_version-requires
take_version-requires c = subst IsFormed c.in-Many.is c.requires

pub returns-in-One-clause-gone : goal.returns-in-One-clause-gone
returns-in-One-clause-gone c = on_true c.is_one.result (λ e v. ap (λ r. form_without c.args.version.now c.args.key (form_at r) v) c.in-One.is ∙ one_gone c.args.version.now c.in-One.there c.args.key c.in-One.other (sym c.is_one.ensures ∙ e) v)

pub returns-in-One-clause-stays : goal.returns-in-One-clause-stays
returns-in-One-clause-stays c = on_false c.is_one.result (λ e v. one_stays c.args.version.now c.in-One.there c.args.key c.in-One.other (sym c.is_one.ensures ∙ e) v ∙ ap (λ r. form_without c.args.version.now c.args.key (form_at r) v) (sym c.in-One.is))
