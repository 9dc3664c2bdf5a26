use Rattle.std.proofs.Common.{◌≡◌, drop}
use Rattle.ctl_index.specs.Inside.TablesByName.{offers_under, namers_under, rows_under, chosen_under}
use Rattle.ctl_index.specs.Inside.TablesRows.{AreRowsTaken}
use Rattle.ctl_index.specs.Inside.TablesPending.{entries_seen}
use Rattle.ctl_index.proofs.rows.take_rows.Given as goal

abbrev pub invariant-loop-place : goal.invariant-loop-place
invariant-loop-place l = record {
  rows : AreRowsTaken (entries_seen l.fn.pending (drop l.place l.fn.keys)) (rows_under l.fn.names.map) (rows_under l.names.map);
  chosen : chosen_under l.names.map ≡ chosen_under l.fn.names.map;
  offers : offers_under l.names.map ≡ offers_under l.fn.names.map;
  namers : namers_under l.names.map ≡ namers_under l.fn.names.map;
}
