-- How marks are read. Not for callers.
use Rattle.std.specs.Prelude.{◌≡◌, ◌+◌, ◌≤◌, ℕ, List, ◌++◌}
use Rattle.ctl_relation.specs.FieldKind.{field_place}
use Rattle.ctl_relation.specs.declared.marks.Counts.{Counts}
use Rattle.ctl_relation.specs.declared.marks.FirstField.{FirstField}
use Rattle.ctl_relation.specs.Marks.{MarkedField, words_of}

-- the words of a field stand at the front of marks
pub record HasFirst (marks : List ℕ) : Type 0 where
  pub field : MarkedField
  pub rest : List ℕ
  pub ordered : field.body.start ≤ field.body.end
  pub words : marks ≡ words_of field ++ rest

-- these are the counts, and this is what stands behind their words
pub record AreCounts (counts : Counts) (groups further : ℕ) (rest : List ℕ) : Type 0 where
  pub groups_are : counts.groups ≡ groups
  pub further_are : counts.further ≡ further
  pub behind_is : counts.behind.now ≡ rest

-- this is what marks have of a field, and this is what stands behind it
pub record IsFirst (first : FirstField) (field : MarkedField) (rest : List ℕ) : Type 0 where
  pub place_is : first.place ≡ field_place field.kind
  pub start_is : first.start ≡ field.body.start
  pub end_is : first.start + first.len ≡ field.body.end
  pub starts_are : first.starts.now ≡ field.starts
  pub further_are : first.further.now ≡ field.further
  pub behind_is : first.behind.now ≡ rest
