use Rattle.std.proofs.Common.{sym, ap, ◌∙◌, drop}
use Rattle.ctl_relation.specs.Bytes.{right_parenthesis}
use Rattle.ctl_relation.proofs.PrintedAtomLemmas.{bound_printed, byte_first}
use Rattle.ctl_relation.proofs.printed.behind_bound.Goals as goal

pub returns-clause-printed : goal.returns-clause-printed
returns-clause-printed c = bound_printed c.args.text.now _ c.in_ok-word.word.now _ c.in_ok-word.ensures.printed (ap (λ n. drop n c.in_ok-word.word.now) (sym c.run_len.ensures.len) ∙ sym c.split_at.ensures.back ∙ byte_first right_parenthesis _ _ c.in_ok-left.ensures.behind)
