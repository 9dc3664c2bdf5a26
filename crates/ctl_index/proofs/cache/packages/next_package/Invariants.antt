use Rattle.std.proofs.Common.{◌≡◌, length}
use Rattle.ctl_index.specs.Inside.NameMap.{entry_names}
use Rattle.ctl_index.specs.Inside.TablesViews.{packages_with, AreFrom}
use Rattle.ctl_index.proofs.cache.packages.next_package.Given as goal

abbrev pub invariant-names : goal.invariant-names
invariant-names l = record {
  rest : packages_with l.prefix l.entries ≡ packages_with l.fn.prefix l.fn.entries;
  from : AreFrom l.prefix (entry_names l.entries);
}

abbrev pub decreases-names : goal.decreases-names
decreases-names l = length l.entries
