use Rattle.std.proofs.Common.{◌∙◌, sym}
use Rattle.ctl_stanza.proofs.LineLemmas.{before_newline, no_newline, cut_at, cut_last}
use Rattle.ctl_stanza.proofs.lines.take_line.Goals as goal

pub returns-in-Some-clause-lines : goal.returns-in-Some-clause-lines
returns-in-Some-clause-lines c = cut_at c.in-Some.at c.args.text.now c.in-Some.ensures.0.high c.in-Some.ensures.0.before c.in-Some.ensures.1

pub returns-in-Some-clause-one_line : goal.returns-in-Some-clause-one_line
returns-in-Some-clause-one_line c = (before_newline c.in-Some.at c.args.text.now c.in-Some.ensures.0.high c.in-Some.ensures.0.before c.in-Some.ensures.1).0

pub returns-in-None-clause-lines : goal.returns-in-None-clause-lines
returns-in-None-clause-lines c = cut_last c.args.text.now (sym c.is_empty.ensures ∙ c.if-is_empty.false) c.in-None.ensures

pub returns-in-None-clause-one_line : goal.returns-in-None-clause-one_line
returns-in-None-clause-one_line c = no_newline c.args.text.now c.in-None.ensures
