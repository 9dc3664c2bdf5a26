use Rattle.std.proofs.Common.{◌≡◌, length}
use Rattle.ctl_store.specs.Prefs.{first_settings, first_own_fault, all_settings}
use Rattle.ctl_store.proofs.prefs.keep_records.Given as goal

abbrev pub invariant-loop-item : goal.invariant-loop-item
invariant-loop-item l = record {
  fault : first_own_fault l.left ≡ first_own_fault l.records;
  settings : first_settings l.kept.pins (all_settings l.left) ≡ first_settings l.fn.kept.pins (all_settings l.records);
}

abbrev pub decreases-loop-item : goal.decreases-loop-item
decreases-loop-item l = length l.left
