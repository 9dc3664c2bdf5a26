use Rattle.std.proofs.Common.{◌∙◌, ap, sym, arith}
use Rattle.ctl_store.proofs.PrefsLemmas.{number_behind, one_too_great}
use Rattle.ctl_store.proofs.priority.number_up_to.Goals as goal

pub returns-then-number-greatest : goal.returns-then-number-greatest
returns-then-number-greatest c =
    sym (sym c.loop-byte.invariant.told ∙ ap (number_behind c.args.greatest c.loop-byte.number) c.in-Some.ensures.cases.0 ∙ one_too_great c.args.greatest c.loop-byte.number c.in-Some.byte.now c.in-Some.rest.now (cc) (omega (arith, c.if-number-greatest.true, c.from.ensures)))
