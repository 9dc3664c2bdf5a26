use Rattle.std.proofs.Common.{◌≡◌, ◌∙◌, Ok, Err, ap, sym, subst, arith, length, rules}
use Rattle.ctl_stanza.specs.declared.fault.TextFault.{TextFault}
use Rattle.ctl_stanza.specs.Text.{read_text, with_contents}
use Rattle.ctl_stanza.specs.InParts.{IsReading}
use Rattle.ctl_stanza.proofs.SoundLemmas.{lines_take_bytes}
use Rattle.ctl_stanza.proofs.ReaderLemmas.{finished}
use Rattle.ctl_stanza.proofs.reader.StanzaReader.finish.Goals as goal

pub read_behind-requires : goal.read_behind-requires
read_behind-requires c = record { lines = omega (arith, lines_take_bytes c.deref.result.now, ap length c.deref.ensures.value, c.self.invariant) }

pub returns-in_err-read_behind-clause-read : goal.returns-in_err-read_behind-clause-read
returns-in_err-read_behind-clause-read c = λ kind n text is.
    let told : (f : TextFault) → with_contents c.self.inside.stanzas.items (read_text c.self.inside.kind c.self.inside.line c.deref.result.now) ≡ Err f → read_text kind n text ≡ Err f
    = λ f e. finished kind n text c.deref.result.now _ (subst (IsReading kind n text) (sym c.self.view_is) is) c.deref.ensures.value ∙ e in
    search (rules, told)

pub returns-clause-read : goal.returns-clause-read
returns-clause-read c = λ kind n text is.
    finished kind n text c.deref.result.now _ (subst (IsReading kind n text) (sym c.self.view_is) is) c.deref.ensures.value
    ∙ c.in_ok-read_behind.ensures.read ∙ ap Ok (sym c.shrink_to_fit.ensures.items)
