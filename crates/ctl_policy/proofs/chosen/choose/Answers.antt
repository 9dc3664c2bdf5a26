use Rattle.ctl_store.specs.Store.{keyed_of}
use Rattle.ctl_policy.specs.Rows.{rows_named}
use Rattle.ctl_policy.proofs.ChoiceLemmas.{form_of}
use Rattle.ctl_policy.proofs.HeldLemmas.{held_form}
use Rattle.ctl_policy.proofs.chosen.choose.Goals as goal

pub choose_in-requires-clause-held : goal.choose_in-requires-clause-held
choose_in-requires-clause-held c =
    let rows = rows_named c.args.name.now (keyed_of c.args.store.now).lists in
    held_form c.form.result.now c.args.name.now (keyed_of c.args.store.now).lists c.form.ensures.ordered (form_of c.form.result.now c.args.rows.now rows c.form.ensures.rows c.requires)

pub choose_in-requires-clause-rows : goal.choose_in-requires-clause-rows
choose_in-requires-clause-rows c = form_of c.form.result.now c.args.rows.now (rows_named c.args.name.now (keyed_of c.args.store.now).lists) c.form.ensures.rows c.requires
