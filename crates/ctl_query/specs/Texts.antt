-- What the answers have in common: names that are not known, and numbers.
use Rattle.std.specs.Prelude.{ℕ, ℤ, ◌-◌, List, [], ◌∷◌, ◌++◌, length, take, codes, if◌then◌else◌}
use Rattle.std.specs.Fmt.{signed_decimal}
use Rattle.ctl_relation.specs.declared.field_kind.FieldKind.{FieldKind}
use Rattle.ctl_relation.specs.FieldKind.{names_of}
use Rattle.ctl_filter.specs.Texts.{line}
use Rattle.ctl_policy.specs.Priority.{World}
use Rattle.ctl_query.specs.Packages.{is_known}

-- what stands in place of the answer on a name that is not known
abbrev pub unknown_line : List ℕ → List ℕ
unknown_line name = line (codes "N: Unable to locate package " ∷ name ∷ [])

-- the answer on a name, if it is known
abbrev pub if_known : World → (List ℕ → List ℕ) → List ℕ → List ℕ
if_known world answer name = if is_known world name then answer name else unknown_line name

-- a relation field, as it is printed
abbrev pub field_label : FieldKind → List ℕ
field_label field = (names_of field).1

-- a number, right in four places, wider where it doesn't fit
abbrev pub right_four : ℤ → List ℕ
right_four n = take (4 - length (signed_decimal n)) (codes "    ") ++ signed_decimal n
