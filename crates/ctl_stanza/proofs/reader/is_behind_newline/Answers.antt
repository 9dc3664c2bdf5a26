use Rattle.ctl_stanza.proofs.ReaderLemmas.{ends_newline, other_newline}
use Rattle.ctl_stanza.proofs.reader.is_behind_newline.Goals as goal

pub returns-then-i-gt0-clause-newline : goal.returns-then-i-gt0-clause-newline
returns-then-i-gt0-clause-newline c = λ is. ends_newline c.args.before.now c.args.text.now c.args.i c.if-i-gt0.true c.requires is

pub returns-then-i-gt0-clause-other : goal.returns-then-i-gt0-clause-other
returns-then-i-gt0-clause-other c = λ other. other_newline c.args.before.now c.args.text.now c.args.i c.if-i-gt0.true c.requires other
