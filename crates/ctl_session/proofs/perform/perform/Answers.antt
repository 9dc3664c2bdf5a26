use Rattle.std.proofs.Common.{◌∙◌, sym}
use Rattle.ctl_session.proofs.perform.perform.Goals as goal

pub returns-in-None-clause-may : goal.returns-in-None-clause-may
returns-in-None-clause-may c = c.do_whole.ensures.may c.args.last_line (sym c.refusal_of_lines.ensures ∙ c.in-None.is)
