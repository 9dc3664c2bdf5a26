use Rattle.ctl_policy.proofs.TouchedLemmas.{add_untouched, drop_untouched}
use Rattle.ctl_policy.proofs.edit_laws.edits_of_lists.Goals as goal

pub returns-clause-add : goal.returns-clause-add
returns-clause-add c = add_untouched

pub returns-clause-drop : goal.returns-clause-drop
returns-clause-drop c = drop_untouched
