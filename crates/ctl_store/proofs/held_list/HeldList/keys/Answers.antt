use Rattle.std.proofs.Common.{◌∙◌, ap}
use Rattle.ctl_store.specs.Entries.{entry_keys}
use Rattle.ctl_store.proofs.EntryLemmas.{keys_under}
use Rattle.ctl_store.proofs.held_list.HeldList.keys.Goals as goal

pub returns : goal.returns
returns c = c.of_list.ensures ∙ ap entry_keys c.entries.ensures ∙ keys_under c.args.self.now.serial c.args.self.now.slots
