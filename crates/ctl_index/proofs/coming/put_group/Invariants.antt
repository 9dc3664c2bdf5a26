use Rattle.std.proofs.Common.{◌≡◌, ◌≤◌, ◌+◌, ◌-◌, ◌*◌, ◌^◌, ℕ, List, length}
use Rattle.std.specs.List.{sum_by}
use Rattle.ctl_index.specs.declared.keys.NamingAtom.{NamingAtom}
use Rattle.ctl_index.specs.Inside.TablesByName.{offers_under, namers_under, own_under}
use Rattle.ctl_index.specs.Inside.TablesIndexed.{atom_named}
use Rattle.ctl_index.specs.Inside.TablesTests.{group_met, group_tested}
use Rattle.ctl_index.specs.Names.{keyed_group}
use Rattle.ctl_index.specs.Work.{more_by}
use Rattle.ctl_index.proofs.coming.put_group.Given as goal

-- what is left to do with the atoms that are left comes to what all come to
abbrev pub invariant-loop-atom : goal.invariant-loop-atom
invariant-loop-atom l = record {
  namers : (q : List ℕ) (f : NamingAtom → ℕ) → sum_by f (namers_under l.names.map q) + sum_by (atom_named q f) (keyed_group l.fn.clause.stanza l.fn.clause.field l.fn.clause.group l.place l.atom-iterator) ≡ sum_by f (namers_under l.fn.names.map q) + sum_by (atom_named q f) (keyed_group l.fn.clause.stanza l.fn.clause.field l.fn.clause.group 0 l.fn.group);
  offers : offers_under l.names.map ≡ offers_under l.fn.names.map;
  rows : own_under l.names.map ≡ own_under l.fn.names.map;
  met : l.met + group_met l.fn.pending l.fn.clause.field (offers_under l.fn.names.map) l.atom-iterator ≡ group_met l.fn.pending l.fn.clause.field (offers_under l.fn.names.map) l.fn.group;
  few : l.met ≤ l.place * 2 ^ 64;
  places : l.place + length l.atom-iterator ≡ length l.fn.group;
  steps : more_by (group_tested l.fn.pending l.fn.clause.field (offers_under l.fn.names.map) l.atom-iterator) l.steps ≡ more_by (group_tested l.fn.pending l.fn.clause.field (offers_under l.fn.names.map) l.fn.group) l.fn.steps;
  counted : l.steps ≤ 2 ^ 128 - 1;
  least : l.fn.steps ≤ l.steps;
}
