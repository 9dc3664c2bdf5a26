use Rattle.std.proofs.Common.{◌≡◌, take, map}
use Rattle.ctl_filter.specs.Filter.{atom_passes}
use Rattle.ctl_filter.proofs.taking.take_values.Given as goal

abbrev pub invariant-loop-i : goal.invariant-loop-i
invariant-loop-i l = record {
  same : l.prepared ≡ l.initial.prepared;
  values : l.values.items ≡ map (atom_passes l.stanza) (take l.i l.initial.prepared);
}
