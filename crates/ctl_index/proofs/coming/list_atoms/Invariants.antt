use Rattle.std.proofs.Common.{◌≡◌, ◌+◌, ℕ, List, drop, take}
use Rattle.std.specs.List.{sum_by}
use Rattle.ctl_index.specs.declared.keys.ClauseKey.{ClauseKey}
use Rattle.ctl_index.specs.declared.keys.NamingAtom.{NamingAtom}
use Rattle.ctl_index.specs.Clauses.{clause_at}
use Rattle.ctl_index.specs.Inside.TablesHeld.{offers_in, namers_in, own_in, number_told}
use Rattle.ctl_index.specs.Inside.TablesIndexed.{namers_sum}
use Rattle.ctl_index.specs.Inside.TablesLoaded.{ComeApart, number_with}
use Rattle.ctl_index.specs.Inside.TablesPending.{entries_seen}
use Rattle.ctl_index.specs.Inside.TablesTests.{atoms_tested}
use Rattle.ctl_index.specs.Work.{more_by}
use Rattle.ctl_index.proofs.coming.list_atoms.Given as goal

-- what is left to do with the stanzas that are left comes to what all come to
abbrev pub invariant-loop-key : goal.invariant-loop-key
invariant-loop-key l = record {
  namers : (q : List ℕ) (f : NamingAtom → ℕ) → sum_by f (namers_in l.tables q) ≡ sum_by f (namers_in l.fn.tables q) + namers_sum q f (entries_seen l.fn.pending (take l.key-index l.fn.keys));
  offers : offers_in l.tables ≡ offers_in l.fn.tables;
  rows : own_in l.tables ≡ own_in l.fn.tables;
  apart : ComeApart l.fn.pending l.fn.keys → ComeApart l.fn.pending (drop l.key-index l.fn.keys);
  counts : ComeApart l.fn.pending l.fn.keys → (k : ClauseKey) → number_with l.fn.pending (offers_in l.fn.tables) k.field (clause_at k (entries_seen l.fn.pending (drop l.key-index l.fn.keys))) (number_told l.tables k) ≡ number_with l.fn.pending (offers_in l.fn.tables) k.field (clause_at k (entries_seen l.fn.pending l.fn.keys)) (number_told l.fn.tables k);
  steps : l.tables.steps ≡ more_by (atoms_tested l.fn.pending (offers_in l.fn.tables) (take l.key-index l.fn.keys)) l.fn.tables.steps;
}
