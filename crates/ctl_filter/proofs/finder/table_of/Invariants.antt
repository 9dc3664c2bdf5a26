use Rattle.std.proofs.Common.{◌≡◌, ℕ, List}
use Rattle.std.specs.Option.{option_or}
use Rattle.ctl_filter.specs.Grep.{entry_among}
use Rattle.ctl_filter.specs.Inside.FieldTable.{entry_under}
use Rattle.ctl_filter.proofs.finder.table_of.Given as goal

-- the fields so far and those that are left are all
abbrev pub invariant-fields : goal.invariant-fields
invariant-fields l = (name : List ℕ) → option_or (entry_under name l.fields) (entry_among name l.spelled-iterator) ≡ entry_among name l.initial.spelled-iterator
