use Rattle.std.proofs.Common.{◌≡◌, ℕ, List, take}
use Rattle.ctl_index.specs.declared.keys.ClauseKey.{ClauseKey}
use Rattle.ctl_index.specs.Inside.TablesCounters.{less_by}
use Rattle.ctl_index.specs.Inside.TablesHeld.{offers_in, namers_in, own_in, number_in}
use Rattle.ctl_index.specs.Inside.TablesLeft.{has_offer}
use Rattle.ctl_index.specs.Inside.TablesLoaded.{all_hits}
use Rattle.ctl_index.specs.Inside.TablesOrder.{offer_stanza, without_if}
use Rattle.ctl_index.specs.Inside.TablesTests.{all_tested}
use Rattle.ctl_index.specs.Work.{more_by}
use Rattle.ctl_index.proofs.going.take_offers_of.Given as goal

abbrev pub invariant-loop-offer : goal.invariant-loop-offer
invariant-loop-offer l = record {
  offers : (q : List ℕ) → offers_in l.tables q ≡ without_if offer_stanza l.fn.going.span (has_offer q (take l.offer-index l.fn.offers)) (offers_in l.fn.tables q);
  namers : namers_in l.tables ≡ namers_in l.fn.tables;
  rows : own_in l.tables ≡ own_in l.fn.tables;
  counts : (k : ClauseKey) → number_in l.tables k ≡ less_by (all_hits l.fn.going.pending (namers_in l.fn.tables) (take l.offer-index l.fn.offers) k) (number_in l.fn.tables k);
  steps : l.tables.steps ≡ more_by (all_tested l.fn.going.pending (namers_in l.fn.tables) (take l.offer-index l.fn.offers)) l.fn.tables.steps;
}
