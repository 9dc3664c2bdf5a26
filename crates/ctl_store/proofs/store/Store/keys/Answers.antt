use Rattle.std.proofs.Common.{◌∙◌, ap}
use Rattle.ctl_store.specs.Entries.{entry_keys}
use Rattle.ctl_store.specs.Store.{lists_of}
use Rattle.ctl_store.proofs.EntryLemmas.{keys_are_all}
use Rattle.ctl_store.proofs.store.Store.keys.Goals as goal

pub returns-clause-entries : goal.returns-clause-entries
returns-clause-entries c = c.new.ensures ∙ ap entry_keys c.entries.ensures.entries

pub returns-clause-keys : goal.returns-clause-keys
returns-clause-keys c = returns-clause-entries c ∙ keys_are_all (lists_of c.args.self.now.lists)
