use Rattle.std.proofs.Common.{Option, ◌∙◌, ap, sym}
use Rattle.std.specs.Option.{option_to_list}
use Rattle.ctl_store.specs.declared.stanza_key.StanzaKey.{StanzaKey}
use Rattle.ctl_store.specs.Store.{lists_of}
use Rattle.ctl_store.proofs.ListedLemmas.{kept_new}
use Rattle.ctl_store.proofs.store.Store.kept_in.Goals as goal

pub returns-in-None : goal.returns-in-None
returns-in-None c =
    c.next_in.ensures
    ∙ sym (kept_new c.args.list.now c.args.stanza.now (lists_of c.args.self.now.lists) (sym c.requires ∙ ap (λ (o : Option StanzaKey). option_to_list o) c.in-None.is))
