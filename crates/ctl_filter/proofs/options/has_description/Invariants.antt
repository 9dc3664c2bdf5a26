use Rattle.std.proofs.Common.{◌≡◌, false, take}
use Rattle.std.specs.List.{list_any}
use Rattle.ctl_filter.specs.Names.{is_description}
use Rattle.ctl_filter.proofs.options.has_description.Given as goal

abbrev pub invariant-loop-name : goal.invariant-loop-name
invariant-loop-name l = list_any is_description (take l.name-index l.names) ≡ false
