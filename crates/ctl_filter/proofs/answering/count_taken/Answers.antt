use Rattle.std.proofs.Common.{rules, ◌≡◌, length, arith}
use Rattle.ctl_filter.specs.Grep.{is_taken}
use Rattle.ctl_filter.specs.HeldQuery.{query_of}
use Rattle.ctl_filter.proofs.StanzaLemmas.{filtered}
use Rattle.ctl_filter.proofs.answering.count_taken.Goals as goal

pub overflow_add-count : goal.overflow_add-count
overflow_add-count c =
    let all = c.into_iter-stanza-iterator.result in
    let same : length all ≡ length c.stanzas_of-stanza-items.result = search (rules, c.into_iter-stanza-iterator.ensures.into_iter_gives) in
    omega (arith, filtered (is_taken (query_of c.args.taker.now)) all, same, c.stanzas_of-stanza-items.ensures.few, c.stanzas.invariant.count)
