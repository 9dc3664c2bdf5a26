use Rattle.std.proofs.Common.{◌≡◌, ◌+◌, length}
use Rattle.std.specs.List.{filter}
use Rattle.ctl_filter.specs.Grep.{is_taken}
use Rattle.ctl_filter.specs.HeldQuery.{query_of}
use Rattle.ctl_filter.proofs.answering.count_taken.Given as goal

-- the stanzas taken so far, and those to be taken of what is left, are all
abbrev pub invariant-stanzas : goal.invariant-stanzas
invariant-stanzas l = record {
  same : l.taker ≡ l.fn.taker;
  count : l.count + length (filter (is_taken (query_of l.fn.taker)) l.stanza-iterator)
      ≡ length (filter (is_taken (query_of l.fn.taker)) l.initial.stanza-iterator);
}
