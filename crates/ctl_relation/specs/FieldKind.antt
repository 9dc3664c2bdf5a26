-- The nine fields that hold relations (Debian Policy 7.1).
use Rattle.std.specs.Prelude.{◌≡◌, ℕ, Bool, true, false, List, [], ◌∷◌, codes}
use Rattle.ctl_relation.specs.declared.field_kind.FieldKind.{FieldKind}
use Rattle.ctl_relation.specs.declared.field_kind.FieldKind.TheVariants.{PreDepends, Depends, Conflicts, Breaks, Recommends, Suggests, Replaces, Enhances, Provides}
use Rattle.ctl_relation.specs.declared.operator.Operator.{Operator}
use Rattle.ctl_relation.specs.declared.operator.Operator.TheVariants.{Equal}

-- the nine, in the order in which they are listed and compared
abbrev pub nine_fields : List FieldKind
nine_fields = PreDepends ∷ Depends ∷ Conflicts ∷ Breaks ∷ Recommends ∷ Suggests ∷ Replaces ∷ Enhances ∷ Provides ∷ []

-- the eight whose atoms name other packages: all but Provides
abbrev pub eight_fields : List FieldKind
eight_fields = PreDepends ∷ Depends ∷ Conflicts ∷ Breaks ∷ Recommends ∷ Suggests ∷ Replaces ∷ Enhances ∷ []

-- the four whose groups are wanted to be met
abbrev pub four_fields : List FieldKind
four_fields = PreDepends ∷ Depends ∷ Recommends ∷ Suggests ∷ []

-- whether a field is one of the four
abbrev pub is_wanted : FieldKind → Bool
is_wanted PreDepends = true
is_wanted Depends = true
is_wanted Conflicts = false
is_wanted Breaks = false
is_wanted Recommends = true
is_wanted Suggests = true
is_wanted Replaces = false
is_wanted Enhances = false
is_wanted Provides = false

-- The name of a field in small letters, as which names of fields are compared; and its name as answers print it.
abbrev pub names_of : FieldKind → List ℕ × List ℕ
names_of PreDepends = (codes "pre-depends", codes "PreDepends")
names_of Depends = (codes "depends", codes "Depends")
names_of Conflicts = (codes "conflicts", codes "Conflicts")
names_of Breaks = (codes "breaks", codes "Breaks")
names_of Recommends = (codes "recommends", codes "Recommends")
names_of Suggests = (codes "suggests", codes "Suggests")
names_of Replaces = (codes "replaces", codes "Replaces")
names_of Enhances = (codes "enhances", codes "Enhances")
names_of Provides = (codes "provides", codes "Provides")

-- the place of a field in the list of the nine, by which fields compare
abbrev pub field_place : FieldKind → ℕ
field_place PreDepends = 0
field_place Depends = 1
field_place Conflicts = 2
field_place Breaks = 3
field_place Recommends = 4
field_place Suggests = 5
field_place Replaces = 6
field_place Enhances = 7
field_place Provides = 8

-- Two fields that stand at one place are one field.
abbrev pub IsFieldByPlace : Type 0
IsFieldByPlace = (a b : FieldKind) → field_place a ≡ field_place b → a ≡ b

-- Conflicts, Breaks, Replaces and Provides have no alternatives.
abbrev pub has_alternatives : FieldKind → Bool
has_alternatives PreDepends = true
has_alternatives Depends = true
has_alternatives Conflicts = false
has_alternatives Breaks = false
has_alternatives Recommends = true
has_alternatives Suggests = true
has_alternatives Replaces = false
has_alternatives Enhances = true
has_alternatives Provides = false

abbrev pub is_provides : FieldKind → Bool
is_provides Provides = true
is_provides _ = false

-- `=`, the only operator that Provides has
abbrev pub is_exact : Operator → Bool
is_exact Equal = true
is_exact _ = false
