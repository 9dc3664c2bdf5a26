use Rattle.std.proofs.Common.{◌≡◌, ◌-◌, ◌^◌, ◌<◌}
use Rattle.ctl_store.specs.Fronts.{front_len, packed, front_of}
use Rattle.ctl_store.proofs.fronts.front_of.Given as goal

abbrev pub invariant-loop-place : goal.invariant-loop-place
invariant-loop-place l = record {
  same : packed (front_len - l.place) l.front l.left ≡ front_of l.fn.name;
  bound : l.front < 40 ^ l.place;
}
