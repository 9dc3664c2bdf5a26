use Rattle.std.proofs.Common.{◌≡◌, length}
use Rattle.ctl_index.specs.Inside.TablesViews.{with_rows}
use Rattle.ctl_index.proofs.cache.candidates.next_with_rows.Given as goal

abbrev pub invariant-names : goal.invariant-names
invariant-names l = with_rows l.entries ≡ with_rows l.fn.entries

abbrev pub decreases-names : goal.decreases-names
decreases-names l = length l.entries
