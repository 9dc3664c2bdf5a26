use Rattle.std.proofs.Common.{◌≡◌, take, map}
use Rattle.ctl_filter.specs.Inside.Values.{atom_of}
use Rattle.ctl_filter.proofs.taking.prepare.Given as goal

abbrev pub invariant-loop-atom : goal.invariant-loop-atom
invariant-loop-atom l = l.prepared.items ≡ map atom_of (take l.atom-index l.atoms)
