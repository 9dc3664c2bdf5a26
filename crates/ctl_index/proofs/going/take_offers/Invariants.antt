use Rattle.std.proofs.Common.{◌≡◌, ℕ, List, take}
use Rattle.std.specs.List.{list_any, sum_by}
use Rattle.ctl_index.specs.declared.keys.ClauseKey.{ClauseKey}
use Rattle.ctl_index.specs.Inside.TablesCounters.{less_by}
use Rattle.ctl_index.specs.Inside.TablesHeld.{offers_in, namers_in, own_in, number_in}
use Rattle.ctl_index.specs.Inside.TablesLeft.{has_offer_at, hits_at}
use Rattle.ctl_index.specs.Inside.TablesOrder.{offer_stanza, without_if}
use Rattle.ctl_index.specs.Inside.TablesTests.{offers_tested}
use Rattle.ctl_index.specs.Work.{more_by}
use Rattle.ctl_index.proofs.going.take_offers.Given as goal

abbrev pub invariant-loop-key : goal.invariant-loop-key
invariant-loop-key l = record {
  offers : (q : List ℕ) → offers_in l.tables q ≡ without_if offer_stanza l.fn.going.span (list_any (has_offer_at l.fn.going.pending q) (take l.key-index l.fn.keys)) (offers_in l.fn.tables q);
  namers : namers_in l.tables ≡ namers_in l.fn.tables;
  rows : own_in l.tables ≡ own_in l.fn.tables;
  counts : (k : ClauseKey) → number_in l.tables k ≡ less_by (sum_by (hits_at l.fn.going.pending (namers_in l.fn.tables) k) (take l.key-index l.fn.keys)) (number_in l.fn.tables k);
  steps : l.tables.steps ≡ more_by (offers_tested l.fn.going.pending (namers_in l.fn.tables) (take l.key-index l.fn.keys)) l.fn.tables.steps;
}
