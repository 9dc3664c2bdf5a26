use Rattle.std.proofs.Common.{◌≡◌, ◌++◌, flat_map}
use Rattle.std.specs.List.{filter}
use Rattle.ctl_filter.specs.Grep.{is_taken, stanza_shown}
use Rattle.ctl_filter.specs.Inside.Values.{shown_of}
use Rattle.ctl_filter.specs.HeldQuery.{query_of}
use Rattle.ctl_filter.proofs.answering.append_taken.Given as goal

abbrev pub invariant-stanzas : goal.invariant-stanzas
invariant-stanzas l = record {
  same : l.taker ≡ l.fn.taker;
  text : l.out.items ++ flat_map (stanza_shown (shown_of l.shown)) (filter (is_taken (query_of l.fn.taker)) l.stanza-iterator)
      ≡ l.fn.out.items ++ flat_map (stanza_shown (shown_of l.shown)) (filter (is_taken (query_of l.fn.taker)) l.initial.stanza-iterator);
}
