use Rattle.std.proofs.Common.{◌∙◌, [], sym}
use Rattle.ctl_stanza.specs.declared.repeats.Repeats.TheVariants.{Never}
use Rattle.ctl_stanza.specs.Lines.{lent_lines}
use Rattle.ctl_stanza.proofs.FaultLemmas.{first_fault-memory, never-memory}
use Rattle.ctl_stanza.proofs.reading.read_piece.Goals as goal

pub returns-in-Some-clause-memory : goal.returns-in-Some-clause-memory
returns-in-Some-clause-memory c =
    never-memory c.in-Some.fault _ (first_fault-memory Never c.args.from.line [] (lent_lines c.as_slice-lines.result.now)) (sym c.in_ok-found.ensures.fault ∙ c.in-Some.is)

pub add_stanza_of_lines-requires-clause-names : goal.add_stanza_of_lines-requires-clause-names
add_stanza_of_lines-requires-clause-names c = λ name given. c.slots-names.ensures name (c.in_ok-found.ensures.names c.in_default.is name ∙ given)
