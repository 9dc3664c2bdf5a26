use Rattle.ctl_policy.proofs.TouchedNamesLemmas.{list_pushed}
use Rattle.ctl_policy.proofs.touching.list_names.Goals as goal

pub returns : goal.returns
returns c = λ q. list_pushed q c.args.store.now c.lists-lists.ensures.distinct c.new-names.result.items c.new-names.ensures.items c.push_list.new.names.items c.args.list.now c.in_ok-push_list.ensures
