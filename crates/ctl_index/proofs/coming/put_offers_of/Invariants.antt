use Rattle.std.proofs.Common.{◌≡◌, ◌+◌, ℕ, List, drop, take, option_map}
use Rattle.std.specs.List.{sum_by}
use Rattle.ctl_index.specs.declared.keys.ClauseKey.{ClauseKey}
use Rattle.ctl_index.specs.declared.keys.OfferKey.{OfferKey}
use Rattle.ctl_index.specs.Inside.TablesCounters.{counted_up}
use Rattle.ctl_index.specs.Inside.TablesHeld.{offers_in, namers_in, own_in, number_in}
use Rattle.ctl_index.specs.Inside.TablesIndexed.{keyed_offers_from, offer_named}
use Rattle.ctl_index.specs.Inside.TablesLoaded.{all_hits}
use Rattle.ctl_index.specs.Inside.TablesTests.{all_tested}
use Rattle.ctl_index.specs.Work.{more_by}
use Rattle.ctl_index.proofs.coming.put_offers_of.Given as goal

abbrev pub invariant-loop-i : goal.invariant-loop-i
invariant-loop-i l = record {
  offers : (q : List ℕ) (f : OfferKey → ℕ) → sum_by f (offers_in l.tables q) + sum_by (offer_named q f) (keyed_offers_from l.fn.key l.i (drop l.i l.fn.offers)) ≡ sum_by f (offers_in l.fn.tables q) + sum_by (offer_named q f) (keyed_offers_from l.fn.key 0 l.fn.offers);
  namers : namers_in l.tables ≡ namers_in l.fn.tables;
  rows : own_in l.tables ≡ own_in l.fn.tables;
  counts : (k : ClauseKey) → number_in l.tables k ≡ option_map (counted_up (all_hits l.fn.pending (namers_in l.fn.tables) (take l.i l.fn.offers) k)) (number_in l.fn.tables k);
  steps : l.tables.steps ≡ more_by (all_tested l.fn.pending (namers_in l.fn.tables) (take l.i l.fn.offers)) l.fn.tables.steps;
}
