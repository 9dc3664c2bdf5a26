use Rattle.std.proofs.Common.{◌≡◌, ℕ, List, take}
use Rattle.std.specs.List.{list_any}
use Rattle.ctl_index.specs.Inside.TablesHeld.{offers_in, namers_in, own_in, number_in}
use Rattle.ctl_index.specs.Inside.TablesLeft.{has_namer_in}
use Rattle.ctl_index.specs.Inside.TablesOrder.{namer_stanza, without_if}
use Rattle.ctl_index.specs.Inside.TablesTests.{fields_tested}
use Rattle.ctl_index.specs.Work.{more_by}
use Rattle.ctl_index.proofs.going.take_fields.Given as goal

abbrev pub invariant-loop-field : goal.invariant-loop-field
invariant-loop-field l = record {
  namers : (q : List ℕ) → namers_in l.tables q ≡ without_if namer_stanza l.fn.going.span (list_any (has_namer_in q l.fn.stanza) (take l.field-index l.fn.fields)) (namers_in l.fn.tables q);
  offers : offers_in l.tables ≡ offers_in l.fn.tables;
  rows : own_in l.tables ≡ own_in l.fn.tables;
  counts : number_in l.tables ≡ number_in l.fn.tables;
  steps : l.tables.steps ≡ more_by (fields_tested l.fn.going.pending (offers_in l.fn.tables) (take l.field-index l.fn.fields) l.fn.stanza) l.fn.tables.steps;
}
