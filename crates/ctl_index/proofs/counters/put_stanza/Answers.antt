use Rattle.std.proofs.Common.{◌∙◌, cond, ap, sym}
use Rattle.ctl_store.specs.Keys.{key_is}
use Rattle.ctl_index.specs.Clauses.{number_among}
use Rattle.ctl_index.specs.Inside.ClauseNumbers.{Placed, number_at_place, place_of}
use Rattle.ctl_index.proofs.ClauseNumberLemmas.{zeros_come}
use Rattle.ctl_index.proofs.NameLemmas.{on_ok_map}
use Rattle.ctl_index.proofs.counters.put_stanza.Goals as goal

pub returns-clause-unmet : goal.returns-clause-unmet
returns-clause-unmet c = on_ok_map c.put.result (λ come.
    zeros_come c.args.numbers.now c.put.new.self c.args.unmet.now c.mark_zeros.new.unmet c.args.stanza c.as_slice.result.now c.as_slice.ensures.order c.requires.none
    (λ k. come k ∙ ap (λ (xs : Placed). cond (key_is k.stanza c.args.stanza) (number_at_place (place_of k) xs) (number_among c.args.numbers.now k)) (sym c.as_slice.ensures.value))
    c.in_ok-mark_zeros.ensures c.requires.unmet) c.put.ensures
