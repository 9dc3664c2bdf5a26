use Rattle.std.proofs.Common.{ap, sym, ◌∙◌}
use Rattle.ctl_policy.specs.Keys.{or_none}
use Rattle.ctl_policy.specs.Rows.{keys_at}
use Rattle.ctl_policy.proofs.ShownLemmas.{shown_get}
use Rattle.ctl_policy.proofs.rows.Rows.keys.Goals as goal

pub returns-clause-keys : goal.returns-clause-keys
returns-clause-keys c = c.keys_in_form.ensures ∙ ap or_none (sym (shown_get c.self.inside.form c.args.version.now)) ∙ ap (λ r. keys_at r c.args.version.now) c.self.view_is
