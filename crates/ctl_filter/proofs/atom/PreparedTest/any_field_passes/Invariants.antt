use Rattle.std.proofs.Common.{◌≡◌, false, take}
use Rattle.std.specs.List.{list_any}
use Rattle.ctl_filter.specs.Filter.{field_passes}
use Rattle.ctl_filter.proofs.atom.PreparedTest.any_field_passes.Given as goal

abbrev pub invariant-loop-name : goal.invariant-loop-name
invariant-loop-name l = record {
  none : list_any (field_passes l.initial.self l.finder) (take l.name-index l.names) ≡ false;
  same : l.self ≡ l.initial.self;
}
