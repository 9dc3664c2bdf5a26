-- The nine relation fields of a stanza (Debian Policy 7.1).
use Rattle.std.specs.Prelude.{ℕ, List, Option}
use Rattle.std.specs.List.{find}
use Rattle.ctl_relation.specs.declared.field_kind.FieldKind.{FieldKind}
use Rattle.ctl_relation.specs.FieldKind.{nine_fields, names_of}
use Rattle.ctl_stanza.specs.Fields.{is_same_name}

-- the name of a relation field, in small letters
abbrev pub name_of : FieldKind → List ℕ
name_of kind = (names_of kind).0

-- the relation field of a name, if it is the name of one of the nine
abbrev pub relation_kind : List ℕ → Option FieldKind
relation_kind name = find (λ kind. is_same_name name (name_of kind)) nine_fields
