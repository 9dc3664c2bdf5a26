use Rattle.std.proofs.Common.{rules, ◌∙◌, Ok, ap, sym}
use Rattle.ctl_stanza.specs.Text.{read_text, Reads}
use Rattle.ctl_stanza.proofs.LawLemmas.{reads_or_tells, tells_least}
use Rattle.ctl_stanza.proofs.RunLemmas.{reads_stanzas}
use Rattle.ctl_stanza.proofs.TurnLemmas.{all-of-none}
use Rattle.ctl_stanza.proofs.reading.read_stanzas.Goals as goal

pub returns-in_err-read_behind-clause-least : goal.returns-in_err-read_behind-clause-least
returns-in_err-read_behind-clause-least c =
    let read : Reads c.from_residual.result (read_text c.args.kind c.args.first_line c.args.text.now) = search rules in
    tells_least c.args.kind c.args.first_line c.args.text.now c.from_residual.result read

pub returns-clause-stanzas : goal.returns-clause-stanzas
returns-clause-stanzas c =
    let read = all-of-none c.new-stanzas.result.items _ _ c.new-stanzas.ensures.items c.in_ok-read_behind.ensures.read ∙ ap Ok (sym c.shrink_to_fit.ensures.items) in
    reads_stanzas c.args.kind c.args.first_line c.args.text.now c.shrink_to_fit.new.self.items read

pub returns-clause-no_fault : goal.returns-clause-no_fault
returns-clause-no_fault c =
    let read = all-of-none c.new-stanzas.result.items _ _ c.new-stanzas.ensures.items c.in_ok-read_behind.ensures.read ∙ ap Ok (sym c.shrink_to_fit.ensures.items) in
    (reads_or_tells c.args.kind c.args.first_line c.args.text.now).read c.shrink_to_fit.new.self.items read
