-- How many atoms a field can have.
use Rattle.std.specs.Prelude.{ℕ, ◌<◌, ◌≤◌, List, length}
use Rattle.std.specs.List.{All, sum_by}
use Rattle.ctl_relation.specs.declared.field_kind.FieldKind.{FieldKind}
use Rattle.ctl_relation.specs.Grammar.{RelationsText}
use Rattle.ctl_relation.specs.Parts.{AtomParts}

-- the atoms of all groups together
abbrev pub atom_count : List (List AtomParts) → ℕ
atom_count groups = sum_by (λ group. length group) groups

-- Each group of a field has an atom.
abbrev pub GroupsHaveAtoms : Type 0
GroupsHaveAtoms = (kind : FieldKind) (body : List ℕ) (groups : List (List AtomParts)) → RelationsText kind body groups
    → All (λ group. 0 < length group) groups

-- A field has no more atoms than bytes.
abbrev pub AtomsTakeBytes : Type 0
AtomsTakeBytes = (kind : FieldKind) (body : List ℕ) (groups : List (List AtomParts)) → RelationsText kind body groups
    → atom_count groups ≤ length body
