use Rattle.std.proofs.Common.{◌≡◌, drop, false}
use Rattle.std.specs.BTreeSet.{contains}
use Rattle.ctl_index.specs.declared.keys.ClauseKey.{ClauseKey}
use Rattle.ctl_index.specs.Clauses.{clause_cmp}
use Rattle.ctl_index.specs.Inside.ClauseNumbers.{zeros_marked}
use Rattle.ctl_index.proofs.counters.unmark_zeros.Given as goal

-- what is left to do with the clauses that are left comes to what all come to
abbrev pub invariant-loop-clause : goal.invariant-loop-clause
invariant-loop-clause l = (k : ClauseKey) → zeros_marked false l.fn.stanza (drop l.clause-index l.fn.clauses) k (contains clause_cmp l.unmet k) ≡ zeros_marked false l.fn.stanza l.fn.clauses k (contains clause_cmp l.fn.unmet k)
