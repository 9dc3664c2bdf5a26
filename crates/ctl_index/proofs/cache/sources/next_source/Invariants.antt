use Rattle.std.proofs.Common.{◌≡◌, length}
use Rattle.ctl_store.specs.Store.{keyed_of}
use Rattle.ctl_index.specs.RowsTold.{sources_among}
use Rattle.ctl_index.proofs.cache.sources.next_source.Given as goal

abbrev pub invariant-lists : goal.invariant-lists
invariant-lists l = sources_among l.fn.keys (keyed_of l.fn.store).lists l.lists ≡ sources_among l.fn.keys (keyed_of l.fn.store).lists l.fn.lists

abbrev pub decreases-lists : goal.decreases-lists
decreases-lists l = length l.lists
