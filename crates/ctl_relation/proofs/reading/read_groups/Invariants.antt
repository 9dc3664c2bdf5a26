use Rattle.std.proofs.Common.{length}
use Rattle.ctl_relation.proofs.GroupLemmas.{AtGroup}
use Rattle.ctl_relation.proofs.reading.read_groups.Given as goal

-- the groups before this place were read
abbrev pub invariant-groups : goal.invariant-groups
invariant-groups l = AtGroup l.kind l.body l.left l.starts.items l.further.items

abbrev pub decreases-groups : goal.decreases-groups
decreases-groups l = length l.left
