use Rattle.std.proofs.Common.{◌≡◌, ◌≤◌, ◌-◌, ◌^◌, ℕ, List}
use Rattle.ctl_index.specs.Inside.TablesByName.{offers_under, namers_under, own_under}
use Rattle.ctl_index.specs.Inside.TablesLeft.{has_namer}
use Rattle.ctl_index.specs.Inside.TablesOrder.{namer_stanza, without_if}
use Rattle.ctl_index.specs.Inside.TablesTests.{group_tested}
use Rattle.ctl_index.specs.Work.{more_by}
use Rattle.ctl_index.proofs.going.take_group.Given as goal

-- what the atoms that are left leave comes to what all leave
abbrev pub invariant-loop-atom : goal.invariant-loop-atom
invariant-loop-atom l = record {
  namers : (q : List ℕ) → without_if namer_stanza l.fn.going.span (has_namer q l.atom-iterator) (namers_under l.names.map q) ≡ without_if namer_stanza l.fn.going.span (has_namer q l.fn.group) (namers_under l.fn.names.map q);
  offers : offers_under l.names.map ≡ offers_under l.fn.names.map;
  rows : own_under l.names.map ≡ own_under l.fn.names.map;
  steps : more_by (group_tested l.fn.going.pending l.fn.field (offers_under l.fn.names.map) l.atom-iterator) l.steps ≡ more_by (group_tested l.fn.going.pending l.fn.field (offers_under l.fn.names.map) l.fn.group) l.fn.steps;
  counted : l.steps ≤ 2 ^ 128 - 1;
}
