use Rattle.std.proofs.Common.{◌≡◌, [], length}
use Rattle.ctl_store.specs.Entries.{entries_of}
use Rattle.ctl_store.specs.Store.{lists_of}
use Rattle.ctl_store.proofs.store.entries.take_first.Given as goal

abbrev pub invariant-lists : goal.invariant-lists
invariant-lists l = record {
  none : l.entries ≡ [];
  rest : entries_of (lists_of l.lists) ≡ entries_of (lists_of l.fn.lists);
}

abbrev pub decreases-lists : goal.decreases-lists
decreases-lists l = length l.lists
