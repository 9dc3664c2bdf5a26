use Rattle.std.proofs.Common.{◌≡◌, false, take}
use Rattle.std.specs.List.{list_any}
use Rattle.ctl_filter.specs.Grep.{has_field}
use Rattle.ctl_filter.proofs.printing.has_any_field.Given as goal

abbrev pub invariant-loop-name : goal.invariant-loop-name
invariant-loop-name l = list_any (has_field l.finder) (take l.name-index l.names) ≡ false
