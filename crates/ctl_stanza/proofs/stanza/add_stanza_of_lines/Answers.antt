use Rattle.std.proofs.Common.{refl, sym, subst}
use Rattle.ctl_stanza.specs.Lines.{lent_lines, text_of_lines}
use Rattle.ctl_stanza.specs.Inside.HeldFields.{loose_bodies}
use Rattle.ctl_stanza.specs.Inside.NameSlots.{AreTakenBy}
use Rattle.ctl_stanza.proofs.SoundLemmas.{read_from, lines_in_front}
use Rattle.ctl_stanza.proofs.stanza.add_stanza_of_lines.Goals as goal

pub add_stanza-requires-clause-read : goal.add_stanza-requires-clause-read
add_stanza-requires-clause-read c =
    let lines = lent_lines c.args.lines.now in
    let found = c.in_ok-text_len.ensures in
    read_from c.args.head.line c.in_ok-text_len.text_len lines (text_of_lines lines) c.fields_of_lines.new.bytes.items c.fields_of_lines.new.fields.items
    found.len found.short refl c.requires.no_newline found.loose found.within found.fields c.requires.no_fault

pub add_stanza-requires-clause-names : goal.add_stanza-requires-clause-names
add_stanza-requires-clause-names c =
    let lines = lent_lines c.args.lines.now in
    let found = c.in_ok-text_len.ensures in
    subst (λ taken. AreTakenBy taken c.args.head.names)
    (sym (lines_in_front c.in_ok-text_len.text_len lines (text_of_lines lines) c.fields_of_lines.new.bytes.items found.len refl c.requires.no_newline (record { more = loose_bodies lines; joined = found.loose })))
    c.requires.names
