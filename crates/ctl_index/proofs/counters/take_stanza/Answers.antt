use Rattle.std.proofs.Common.{◌∙◌, ap, sym}
use Rattle.ctl_index.specs.declared.keys.ClauseKey.{ClauseKey}
use Rattle.ctl_index.specs.Inside.ClauseNumbers.{Placed, number_at_place, place_of}
use Rattle.ctl_index.proofs.ClauseNumberLemmas.{zeros_go}
use Rattle.ctl_index.proofs.counters.take_stanza.Goals as goal

pub returns-clause-unmet : goal.returns-clause-unmet
returns-clause-unmet c =
    zeros_go c.args.numbers.now c.take-taken.new.self c.args.unmet.now c.unmark_zeros.new.unmet c.args.stanza c.as_slice.result.now c.as_slice.ensures.order
    (λ (k : ClauseKey) is. c.take-taken.ensures.told k is ∙ ap (λ (xs : Placed). number_at_place (place_of k) xs) (sym c.as_slice.ensures.value))
    c.take-taken.ensures.gone c.unmark_zeros.ensures c.requires
