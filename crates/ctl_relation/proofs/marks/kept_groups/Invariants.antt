use Rattle.std.proofs.Common.{List, length}
use Rattle.ctl_relation.specs.Marks.{MarkedField}
use Rattle.ctl_relation.specs.Marks.{AreMarks}
use Rattle.ctl_relation.proofs.MarkLemmas.{Left}
use Rattle.ctl_relation.proofs.marks.kept_groups.Given as goal

abbrev pub invariant-fields : goal.invariant-fields
invariant-fields l = (all : List MarkedField) → AreMarks l.bytes l.marks all → Left l.bytes l.left l.kind all

abbrev pub decreases-fields : goal.decreases-fields
decreases-fields l = length l.left
