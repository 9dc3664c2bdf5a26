use Rattle.std.proofs.Common.{◌≡◌}
use Rattle.ctl_filter.specs.Grep.{entry_among}
use Rattle.ctl_filter.proofs.finder.entry_named.Given as goal

abbrev pub invariant-fields : goal.invariant-fields
invariant-fields l = entry_among l.name l.spelled-iterator ≡ entry_among l.name l.initial.spelled-iterator
