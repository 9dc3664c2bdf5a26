use Rattle.std.proofs.Common.{◌≡◌, ◌+◌, ℕ, List, take}
use Rattle.std.specs.List.{fold, sum_by}
use Rattle.ctl_stanza.specs.Content.{groups_of}
use Rattle.ctl_index.specs.declared.keys.ClauseKey.{ClauseKey}
use Rattle.ctl_index.specs.declared.keys.NamingAtom.{NamingAtom}
use Rattle.ctl_index.specs.Inside.TablesHeld.{offers_in, namers_in, own_in, number_told}
use Rattle.ctl_index.specs.Inside.TablesIndexed.{atom_named}
use Rattle.ctl_index.specs.Inside.TablesLoaded.{group_named, number_with}
use Rattle.ctl_index.specs.Inside.TablesTests.{fields_tested}
use Rattle.ctl_index.specs.Names.{keyed_groups}
use Rattle.ctl_index.specs.Work.{more_by}
use Rattle.ctl_index.proofs.coming.put_fields.Given as goal

abbrev pub invariant-loop-field : goal.invariant-loop-field
invariant-loop-field l = record {
  namers : (q : List ℕ) (f : NamingAtom → ℕ) → sum_by f (namers_in l.tables q) ≡ sum_by f (namers_in l.fn.tables q) + sum_by (λ field. sum_by (atom_named q f) (keyed_groups l.fn.key field 0 (groups_of field l.fn.stanza))) (take l.field-index l.fn.fields);
  offers : offers_in l.tables ≡ offers_in l.fn.tables;
  rows : own_in l.tables ≡ own_in l.fn.tables;
  counts : (k : ClauseKey) → number_told l.tables k ≡ fold (λ old field. number_with l.fn.pending (offers_in l.fn.tables) field (group_named l.fn.key field (groups_of field l.fn.stanza) k) old) (number_told l.fn.tables k) (take l.field-index l.fn.fields);
  steps : l.tables.steps ≡ more_by (fields_tested l.fn.pending (offers_in l.fn.tables) (take l.field-index l.fn.fields) l.fn.stanza) l.fn.tables.steps;
}
