use Rattle.std.proofs.Common.{◌∙◌, sym, ap}
use Rattle.ctl_stanza.specs.Given.{Given}
use Rattle.ctl_stanza.specs.Inside.HeldNames.{holds}
use Rattle.ctl_stanza.proofs.SlotLemmas.{given-is}
use Rattle.ctl_stanza.proofs.names_given.NamesGiven.slots.Goals as goal

pub returns : goal.returns
returns c = λ name held. c.self.invariant name (sym (given-is c.self.inside name) ∙ ap (λ (g : Given). holds g name) c.self.view_is ∙ held)
