use Rattle.std.proofs.Common.{◌≡◌, ◌≤◌, ◌<◌, ◌+◌, ◌-◌, ◌^◌, ℕ, List, length}
use Rattle.std.specs.List.{sum_by}
use Rattle.ctl_relation.specs.Bounds.{atom_count}
use Rattle.ctl_index.specs.declared.keys.ClauseKey.{ClauseKey}
use Rattle.ctl_index.specs.declared.keys.NamingAtom.{NamingAtom}
use Rattle.ctl_index.specs.Inside.TablesHeld.{offers_in, namers_in, own_in, number_told}
use Rattle.ctl_index.specs.Inside.TablesIndexed.{atom_named}
use Rattle.ctl_index.specs.Inside.TablesLoaded.{group_named, number_with}
use Rattle.ctl_index.specs.Inside.TablesTests.{groups_tested}
use Rattle.ctl_index.specs.Names.{keyed_groups}
use Rattle.ctl_index.specs.Work.{more_by}
use Rattle.ctl_index.proofs.ClauseLemmas.{group_from}
use Rattle.ctl_index.proofs.coming.put_groups.Given as goal

-- what is left to do with the groups that are left comes to what all come to
abbrev pub invariant-loop-group : goal.invariant-loop-group
invariant-loop-group l = record {
  namers : (q : List ℕ) (f : NamingAtom → ℕ) → sum_by f (namers_in l.tables q) + sum_by (atom_named q f) (keyed_groups l.fn.key l.fn.field l.place l.group-iterator) ≡ sum_by f (namers_in l.fn.tables q) + sum_by (atom_named q f) (keyed_groups l.fn.key l.fn.field 0 l.fn.groups);
  offers : offers_in l.tables ≡ offers_in l.fn.tables;
  rows : own_in l.tables ≡ own_in l.fn.tables;
  counts : (k : ClauseKey) → number_with l.fn.pending (offers_in l.fn.tables) l.fn.field (group_from l.fn.key k l.fn.field l.place l.group-iterator) (number_told l.tables k) ≡ number_with l.fn.pending (offers_in l.fn.tables) l.fn.field (group_named l.fn.key l.fn.field l.fn.groups k) (number_told l.fn.tables k);
  places : l.place + length l.group-iterator ≡ length l.fn.groups;
  few : atom_count l.group-iterator < 2 ^ 32;
  steps : more_by (groups_tested l.fn.pending l.fn.field (offers_in l.fn.tables) l.group-iterator) l.tables.steps ≡ more_by (groups_tested l.fn.pending l.fn.field (offers_in l.fn.tables) l.fn.groups) l.fn.tables.steps;
  counted : l.tables.steps ≤ 2 ^ 128 - 1;
  least : l.fn.tables.steps ≤ l.tables.steps;
}
