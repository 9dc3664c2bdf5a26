use Rattle.std.proofs.Common.{◌≡◌, ℕ, List, take, None, cond}
use Rattle.std.specs.List.{list_any}
use Rattle.ctl_index.specs.declared.keys.ClauseKey.{ClauseKey}
use Rattle.ctl_index.specs.Inside.TablesHeld.{offers_in, namers_in, own_in, number_in}
use Rattle.ctl_index.specs.Inside.TablesLeft.{has_namer_at, is_stanza_at}
use Rattle.ctl_index.specs.Inside.TablesOrder.{namer_stanza, without_if}
use Rattle.ctl_index.specs.Inside.TablesTests.{atoms_tested}
use Rattle.ctl_index.specs.Work.{more_by}
use Rattle.ctl_index.proofs.going.take_atoms.Given as goal

abbrev pub invariant-loop-key : goal.invariant-loop-key
invariant-loop-key l = record {
  namers : (q : List ℕ) → namers_in l.tables q ≡ without_if namer_stanza l.fn.going.span (list_any (has_namer_at l.fn.going.pending q) (take l.key-index l.fn.keys)) (namers_in l.fn.tables q);
  offers : offers_in l.tables ≡ offers_in l.fn.tables;
  rows : own_in l.tables ≡ own_in l.fn.tables;
  counts : (k : ClauseKey) → number_in l.tables k ≡ cond (list_any (is_stanza_at l.fn.going.pending k.stanza) (take l.key-index l.fn.keys)) None (number_in l.fn.tables k);
  steps : l.tables.steps ≡ more_by (atoms_tested l.fn.going.pending (offers_in l.fn.tables) (take l.key-index l.fn.keys)) l.fn.tables.steps;
}
