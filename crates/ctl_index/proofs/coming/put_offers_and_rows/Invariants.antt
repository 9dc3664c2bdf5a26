use Rattle.std.proofs.Common.{◌≡◌, ◌+◌, ◌<◌, ℕ, List, take, option_map}
use Rattle.std.specs.List.{sum_by, slice_index_or}
use Rattle.ctl_store.specs.declared.stanza_key.StanzaKey.{StanzaKey}
use Rattle.ctl_index.specs.declared.keys.ClauseKey.{ClauseKey}
use Rattle.ctl_index.specs.declared.keys.OfferKey.{OfferKey}
use Rattle.ctl_index.specs.Offers.{contents, offers_among}
use Rattle.ctl_index.specs.Inside.TablesCounters.{counted_up}
use Rattle.ctl_index.specs.Inside.TablesHeld.{offers_in, namers_in, rows_in, chosen_in, number_in}
use Rattle.ctl_index.specs.Inside.TablesFit.{IsWholeAt}
use Rattle.ctl_index.specs.Inside.TablesIndexed.{offers_sum}
use Rattle.ctl_index.specs.Inside.TablesLoaded.{all_hits}
use Rattle.ctl_index.specs.Inside.TablesPending.{seen, entries_seen}
use Rattle.ctl_index.specs.Inside.TablesRows.{AreRowsPut}
use Rattle.ctl_index.specs.Inside.TablesTests.{offers_tested}
use Rattle.ctl_index.specs.Work.{more_by}
use Rattle.ctl_index.proofs.coming.put_offers_and_rows.Given as goal

abbrev pub invariant-loop-key : goal.invariant-loop-key
invariant-loop-key l = record {
  whole : (k : ℕ) (d : StanzaKey) → k < l.key-index → IsWholeAt (seen l.fn.pending) (slice_index_or l.fn.keys k d);
  offers : (q : List ℕ) (f : OfferKey → ℕ) → sum_by f (offers_in l.tables q) ≡ sum_by f (offers_in l.fn.tables q) + offers_sum q f (entries_seen l.fn.pending (take l.key-index l.fn.keys));
  namers : namers_in l.tables ≡ namers_in l.fn.tables;
  rows : AreRowsPut (entries_seen l.fn.pending (take l.key-index l.fn.keys)) (rows_in l.fn.tables) (rows_in l.tables);
  chosen : chosen_in l.tables ≡ chosen_in l.fn.tables;
  counts : (k : ClauseKey) → number_in l.tables k ≡ option_map (counted_up (all_hits l.fn.pending (namers_in l.fn.tables) (offers_among (contents (entries_seen l.fn.pending (take l.key-index l.fn.keys)))) k)) (number_in l.fn.tables k);
  steps : l.tables.steps ≡ more_by (offers_tested l.fn.pending (namers_in l.fn.tables) (take l.key-index l.fn.keys)) l.fn.tables.steps;
}
