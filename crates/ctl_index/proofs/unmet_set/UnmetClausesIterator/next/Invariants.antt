use Rattle.std.proofs.Common.{◌≡◌, length}
use Rattle.ctl_index.specs.Inside.UnmetSet.{unmet_keys}
use Rattle.ctl_index.proofs.unmet_set.UnmetClausesIterator.next.Given as goal

-- the places that were passed are of clauses that left
abbrev pub invariant-places : goal.invariant-places
invariant-places l = unmet_keys l.self-inside.places ≡ l.fn.self

abbrev pub decreases-places : goal.decreases-places
decreases-places l = length l.self-inside.places
