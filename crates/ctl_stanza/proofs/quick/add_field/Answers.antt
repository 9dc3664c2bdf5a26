use Rattle.std.proofs.Common.{◌∙◌, sym}
use Rattle.ctl_stanza.proofs.QuickLemmas.{adds-field}
use Rattle.ctl_stanza.proofs.quick.add_field.Goals as goal

pub returns : goal.returns
returns c = λ is bytes stands.
    adds-field bytes c.args.here.now c.in-Field.n c.in-Some.field c.args.fields.now.items _ (sym c.requires.kind ∙ c.in-Field.is) (c.in-Some.ensures bytes stands) c.in_ok-push.ensures.items
