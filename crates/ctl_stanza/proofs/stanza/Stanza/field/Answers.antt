use Rattle.std.proofs.Common.{◌∙◌, take, sym, ap}
use Rattle.ctl_stanza.specs.Content.{body_of}
use Rattle.ctl_stanza.specs.Lines.{lines_of}
use Rattle.ctl_stanza.proofs.SlotLemmas.{no-slot}
use Rattle.ctl_stanza.proofs.stanza.Stanza.field.Goals as goal

pub returns-then-not-is_taken : goal.returns-then-not-is_taken
returns-then-not-is_taken c =
    no-slot c.args.name.now (lines_of (take c.self.inside.text_len c.self.inside.bytes.items)) c.self.inside.names c.self.invariant.names_are (sym c.is_taken.ensures ∙ c.if-not-is_taken.true)
    ∙ ap (λ content. body_of content c.args.name.now) c.self.view_is
