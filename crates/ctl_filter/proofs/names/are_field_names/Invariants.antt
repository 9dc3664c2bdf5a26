use Rattle.std.proofs.Common.{◌≡◌, true, take}
use Rattle.std.specs.List.{list_all}
use Rattle.ctl_filter.specs.Names.{is_field_name}
use Rattle.ctl_filter.proofs.names.are_field_names.Given as goal

abbrev pub invariant-loop-name : goal.invariant-loop-name
invariant-loop-name l = list_all is_field_name (take l.name-index l.names) ≡ true
