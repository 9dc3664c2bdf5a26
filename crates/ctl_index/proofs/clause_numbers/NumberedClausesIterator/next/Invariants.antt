use Rattle.std.proofs.Common.{◌≡◌, ◌++◌, length}
use Rattle.ctl_index.specs.Inside.ClauseNumbers.{all_numbered, clauses_numbered}
use Rattle.ctl_index.proofs.clause_numbers.NumberedClausesIterator.next.Given as goal

-- the stanzas that were passed have no clause that is left
abbrev pub invariant-stanzas : goal.invariant-stanzas
invariant-stanzas l = clauses_numbered l.self-inside.stanza l.self-inside.clauses.now ++ all_numbered l.self-inside.stanzas ≡ l.fn.self

abbrev pub decreases-stanzas : goal.decreases-stanzas
decreases-stanzas l = length l.self-inside.stanzas
