-- The printed form of atoms and groups.
use Rattle.std.specs.Prelude.{ℕ, List, [], ◌∷◌, ◌++◌, Option, Some, None, codes}
use Rattle.std.specs.List.{flat_map}
use Rattle.ctl_relation.specs.declared.operator.Operator.{Operator}
use Rattle.ctl_relation.specs.declared.operator.Operator.TheVariants.{Earlier, EarlierOrEqual, Equal, LaterOrEqual, Later}
use Rattle.ctl_relation.specs.Bytes.{colon}
use Rattle.ctl_relation.specs.Parts.{AtomParts}

-- the five operators of Debian Policy 7.1
abbrev pub operator_text : Operator → List ℕ
operator_text Earlier = codes "<<"
operator_text EarlierOrEqual = codes "<="
operator_text Equal = codes "="
operator_text LaterOrEqual = codes ">="
operator_text Later = codes ">>"

-- a qualifier behind its colon, or nothing
abbrev pub qualifier_text : Option (List ℕ) → List ℕ
qualifier_text None = []
qualifier_text (Some qualifier) = colon ∷ qualifier

-- a space and in parentheses the operator, a space and the version, or nothing
abbrev pub bound_text : Option (Operator × List ℕ) → List ℕ
bound_text None = []
bound_text (Some bound) = codes " (" ++ operator_text bound.0 ++ codes " " ++ bound.1 ++ codes ")"

-- the name, the qualifier behind its colon, the bound
abbrev pub atom_text : AtomParts → List ℕ
atom_text atom = atom.name ++ qualifier_text atom.qualifier ++ bound_text atom.bound

-- a further alternative, behind its bar
abbrev pub alternative_text : AtomParts → List ℕ
alternative_text atom = codes " | " ++ atom_text atom

-- the atoms, joined by bars
abbrev pub group_text : List AtomParts → List ℕ
group_text [] = []
group_text (atom ∷ others) = atom_text atom ++ flat_map alternative_text others
