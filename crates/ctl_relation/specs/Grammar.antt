-- The grammar of a relation field (Debian Policy 7.1): which texts are fields, and with which groups.
--   field  = [group] { "," [group] }
--   group  = atom { "|" atom }
--   atom   = name [":" qualifier] ["(" operator version ")"]
-- Whitespace may stand between two tokens and at both ends, but not round the colon.
use Rattle.std.specs.Prelude.{◌≡◌, ◌⊎◌, ℕ, ◌<◌, true, List, [], ◌∷◌, ◌++◌, length, Option, Some, None, codes}
use Rattle.std.specs.List.{list_all}
use Rattle.ctl_relation.specs.declared.operator.Operator.{Operator}
use Rattle.ctl_relation.specs.declared.operator.Operator.TheVariants.{Earlier, EarlierOrEqual, Equal, LaterOrEqual, Later}
use Rattle.ctl_relation.specs.declared.field_kind.FieldKind.{FieldKind}
use Rattle.ctl_relation.specs.Bytes.{left_parenthesis, right_parenthesis, comma, colon, bar}
use Rattle.ctl_relation.specs.FieldBytes.{is_whitespace, is_qualifier_byte}
use Rattle.ctl_relation.specs.FieldKind.{is_provides, has_alternatives, is_exact}
use Rattle.ctl_relation.specs.Names.{is_name}
use Rattle.ctl_relation.specs.Parts.{AtomParts}
use Rattle.ctl_relation.specs.Version.{fault_of}

abbrev pub IsWhitespace : List ℕ → Type 0
IsWhitespace text = list_all is_whitespace text ≡ true

-- `<` alone means `<=`, and `>` alone means `>=`.
abbrev pub IsSpelled : Operator → List ℕ → Type 0
IsSpelled Earlier text = text ≡ codes "<<"
IsSpelled EarlierOrEqual text = (text ≡ codes "<=") ⊎ (text ≡ codes "<")
IsSpelled Equal text = text ≡ codes "="
IsSpelled LaterOrEqual text = (text ≡ codes ">=") ⊎ (text ≡ codes ">")
IsSpelled Later text = text ≡ codes ">>"

-- a colon and the qualifier, of one or more letters, digits and hyphens; or nothing
abbrev pub QualifierText : List ℕ → Option (List ℕ) → Type 0
QualifierText text None = text ≡ []
QualifierText text (Some qualifier) =
    (text ≡ colon ∷ qualifier) × (0 < length qualifier) × (list_all is_qualifier_byte qualifier ≡ true)

-- whitespace, `(`, whitespace, the operator, whitespace, the version, whitespace, `)`; in Provides the operator is `=`
pub record BracketText (kind : FieldKind) (text : List ℕ) (op : Operator) (version : List ℕ) : Type 0 where
  pub before : List ℕ
  pub inside : List ℕ
  pub spelled : List ℕ
  pub between : List ℕ
  pub behind : List ℕ
  pub blanks : IsWhitespace before × IsWhitespace inside × IsWhitespace between × IsWhitespace behind
  pub operator : IsSpelled op spelled
  pub in_provides : is_provides kind ≡ true → is_exact op ≡ true
  pub is_version : fault_of version ≡ None
  pub whole : text ≡ before ++ left_parenthesis ∷ (inside ++ (spelled ++ (between ++ (version ++ (behind ++ right_parenthesis ∷ [])))))

-- a bound in parentheses, or nothing
abbrev pub BoundText : FieldKind → List ℕ → Option (Operator × List ℕ) → Type 0
BoundText kind text None = text ≡ []
BoundText kind text (Some bound) = BracketText kind text bound.0 bound.1

-- the name, the qualifier, the bound
pub record AtomText (kind : FieldKind) (text : List ℕ) (atom : AtomParts) : Type 0 where
  pub qualifier_text : List ℕ
  pub bound_text : List ℕ
  pub name : is_name atom.name ≡ true
  pub qualifier : QualifierText qualifier_text atom.qualifier
  pub bound : BoundText kind bound_text atom.bound
  pub whole : text ≡ atom.name ++ (qualifier_text ++ bound_text)

-- an atom with whitespace round it
pub record PaddedAtom (kind : FieldKind) (text : List ℕ) (atom : AtomParts) : Type 0 where
  pub before : List ℕ
  pub middle : List ℕ
  pub after : List ℕ
  pub blanks : IsWhitespace before × IsWhitespace after
  pub spelled : AtomText kind middle atom
  pub whole : text ≡ before ++ (middle ++ after)

-- atom { "|" atom }, the bar only where the field has alternatives
abbrev pub GroupText : FieldKind → List ℕ → List AtomParts → Type 0
GroupText kind text [] = ⊥
GroupText kind text (atom ∷ []) = PaddedAtom kind text atom
GroupText kind text (atom ∷ other ∷ more) =
    (first after : List ℕ) × PaddedAtom kind first atom × (has_alternatives kind ≡ true)
    × GroupText kind after (other ∷ more) × (text ≡ first ++ bar ∷ after)

-- [group]: whitespace alone is a piece without a group
abbrev pub PieceText : FieldKind → List ℕ → Option (List AtomParts) → Type 0
PieceText kind text None = IsWhitespace text
PieceText kind text (Some group) = GroupText kind text group

-- [group] { "," [group] }
abbrev pub PiecesText : FieldKind → List ℕ → List (Option (List AtomParts)) → Type 0
PiecesText kind text [] = ⊥
PiecesText kind text (piece ∷ []) = PieceText kind text piece
PiecesText kind text (piece ∷ other ∷ more) =
    (first after : List ℕ) × PieceText kind first piece
    × PiecesText kind after (other ∷ more) × (text ≡ first ++ comma ∷ after)

-- the groups that are there
abbrev pub given_groups : List (Option (List AtomParts)) → List (List AtomParts)
given_groups [] = []
given_groups (None ∷ pieces) = given_groups pieces
given_groups (Some group ∷ pieces) = group ∷ given_groups pieces

-- The text is a field with these groups: a piece without a group is skipped.
abbrev pub RelationsText : FieldKind → List ℕ → List (List AtomParts) → Type 0
RelationsText kind text groups =
    (pieces : List (Option (List AtomParts))) × PiecesText kind text pieces × (groups ≡ given_groups pieces)
