use Rattle.std.proofs.Common.{◌∙◌, Some, ap, sym}
use Rattle.std.specs.Ordering.{is_eq}
use Rattle.ctl_index.proofs.ClauseNumberLemmas.{on_true, same_stanza}
use Rattle.ctl_index.proofs.waiting.Waiting.is_of.Goals as goal

pub returns-in-Some : goal.returns-in-Some
returns-in-Some c = on_true c.is_eq.result (λ same. c.in-Some.is ∙ ap (λ k. Some k) (same_stanza c.in-Some.own c.args.stanza (ap is_eq (sym c.compare_keys.ensures) ∙ sym c.is_eq.ensures ∙ same)))
