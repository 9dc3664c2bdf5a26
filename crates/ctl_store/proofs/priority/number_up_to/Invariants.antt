use Rattle.std.proofs.Common.{◌≡◌, ◌≤◌, length}
use Rattle.ctl_store.proofs.PrefsLemmas.{number_behind}
use Rattle.ctl_store.proofs.priority.number_up_to.Given as goal

abbrev pub invariant-loop-byte : goal.invariant-loop-byte
invariant-loop-byte l = record {
  within : l.number ≤ l.greatest;
  told : number_behind l.greatest l.number l.left ≡ number_behind l.greatest 0 l.digits;
}

abbrev pub decreases-loop-byte : goal.decreases-loop-byte
decreases-loop-byte l = length l.left
