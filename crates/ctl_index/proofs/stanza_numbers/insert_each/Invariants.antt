use Rattle.std.proofs.Common.{◌≡◌, drop}
use Rattle.std.specs.BTreeMap.{get}
use Rattle.ctl_index.specs.declared.stanza_numbers.ClausePlace.{ClausePlace}
use Rattle.ctl_index.specs.Inside.ClauseNumbers.{come_in, place_cmp}
use Rattle.ctl_index.proofs.stanza_numbers.insert_each.Given as goal

-- what is left to do with the clauses that are left comes to what all come to
abbrev pub invariant-loop-clause : goal.invariant-loop-clause
invariant-loop-clause l = (q : ClausePlace) → come_in (drop l.clause-index l.fn.clauses) q (get place_cmp l.all q) ≡ come_in l.fn.clauses q (get place_cmp l.fn.all q)
