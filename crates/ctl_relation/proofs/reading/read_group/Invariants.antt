use Rattle.std.proofs.Common.{length}
use Rattle.ctl_relation.proofs.GroupLemmas.{AtAtom}
use Rattle.ctl_relation.proofs.reading.read_group.Given as goal

-- the atoms before this one were read
abbrev pub invariant-atoms : goal.invariant-atoms
invariant-atoms l = AtAtom l.kind l.body l.text l.left l.fn.further.items l.further.items

abbrev pub decreases-atoms : goal.decreases-atoms
decreases-atoms l = length l.left
