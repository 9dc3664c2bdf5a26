use Rattle.std.proofs.Common.{◌≡◌, ◌≤◌, ◌-◌, ◌^◌, ℕ, List}
use Rattle.std.specs.List.{list_any}
use Rattle.ctl_index.specs.Inside.TablesHeld.{offers_in, namers_in, own_in, number_in}
use Rattle.ctl_index.specs.Inside.TablesLeft.{has_namer}
use Rattle.ctl_index.specs.Inside.TablesOrder.{namer_stanza, without_if}
use Rattle.ctl_index.specs.Inside.TablesTests.{groups_tested}
use Rattle.ctl_index.specs.Work.{more_by}
use Rattle.ctl_index.proofs.going.take_groups.Given as goal

-- what the groups that are left leave comes to what all leave
abbrev pub invariant-loop-group : goal.invariant-loop-group
invariant-loop-group l = record {
  namers : (q : List ℕ) → without_if namer_stanza l.fn.going.span (list_any (has_namer q) l.group-iterator) (namers_in l.tables q) ≡ without_if namer_stanza l.fn.going.span (list_any (has_namer q) l.fn.groups) (namers_in l.fn.tables q);
  offers : offers_in l.tables ≡ offers_in l.fn.tables;
  rows : own_in l.tables ≡ own_in l.fn.tables;
  counts : number_in l.tables ≡ number_in l.fn.tables;
  steps : more_by (groups_tested l.fn.going.pending l.fn.field (offers_in l.fn.tables) l.group-iterator) l.tables.steps ≡ more_by (groups_tested l.fn.going.pending l.fn.field (offers_in l.fn.tables) l.fn.groups) l.fn.tables.steps;
  counted : l.tables.steps ≤ 2 ^ 128 - 1;
}
