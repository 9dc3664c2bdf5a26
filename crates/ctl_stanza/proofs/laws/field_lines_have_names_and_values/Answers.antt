use Rattle.ctl_stanza.proofs.FieldLineLemmas.{taken, known}
use Rattle.ctl_stanza.proofs.laws.field_lines_have_names_and_values.Goals as goal

pub returns-clause-taken : goal.returns-clause-taken
returns-clause-taken c = taken

pub returns-clause-known : goal.returns-clause-known
returns-clause-known c = known
