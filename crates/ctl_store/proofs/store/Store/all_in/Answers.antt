use Rattle.std.proofs.Common.{◌≡◌, rules}
use Rattle.std.proofs.lemmas.Iterator.{items_from_collect}
use Rattle.std.proofs.lemmas.Iterator.Consumers.{YieldsList-from_first}
use Rattle.ctl_store.specs.Keys.{all_in}
use Rattle.ctl_store.specs.Store.{lists_of}
use Rattle.ctl_store.proofs.ListedLemmas.{at_name_lists}
use Rattle.ctl_store.proofs.store.Store.all_in.Goals as goal

pub returns-in-Some : goal.returns-in-Some
returns-in-Some c =
    let keys = all_in c.args.list.now (lists_of c.args.self.now.lists) in
    let same : c.keys.result ≡ keys = search (rules, at_name_lists) in
    items_from_collect c.collect.result c.collect.ensures.ran (YieldsList-from_first (λ x. x) (λ rest. rest) keys same)
