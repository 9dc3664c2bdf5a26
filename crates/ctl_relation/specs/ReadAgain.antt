-- What was read from a relation field, printed and read again, is the same.
use Rattle.std.specs.Prelude.{ℕ, List, [], ◌∷◌}
use Rattle.std.specs.List.{All}
use Rattle.ctl_relation.specs.declared.field_kind.FieldKind.{FieldKind}
use Rattle.ctl_relation.specs.Grammar.{RelationsText}
use Rattle.ctl_relation.specs.Parts.{AtomParts}
use Rattle.ctl_relation.specs.Printed.{atom_text, group_text}

-- The printed form of an atom of a field is a field of that kind, with this atom alone.
abbrev pub AtomsReadAgain : Type 0
AtomsReadAgain =
    (kind : FieldKind) (body : List ℕ) (groups : List (List AtomParts)) → RelationsText kind body groups
    → All (λ group. All (λ atom. RelationsText kind (atom_text atom) ((atom ∷ []) ∷ [])) group) groups

-- The printed form of a group of a field is a field of that kind, with this group alone.
abbrev pub GroupsReadAgain : Type 0
GroupsReadAgain =
    (kind : FieldKind) (body : List ℕ) (groups : List (List AtomParts)) → RelationsText kind body groups
    → All (λ group. RelationsText kind (group_text group) (group ∷ [])) groups
