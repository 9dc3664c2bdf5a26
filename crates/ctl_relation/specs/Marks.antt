-- The words of 32 bits that are kept of relation fields whose bodies stand in the same bytes.
use Rattle.std.specs.Prelude.{◌≡◌, ℕ, ◌+◌, ◌-◌, ◌*◌, ◌&&◌, Bool, List, [], ◌∷◌, ◌++◌, nat_lt, nat_eq, length, Option, None, Some, if◌then◌else◌}
use Rattle.std.specs.List.{All, flat_map}
use Rattle.ctl_relation.specs.declared.field_kind.FieldKind.{FieldKind}
use Rattle.ctl_relation.specs.FieldKind.{field_place}
use Rattle.ctl_relation.specs.declared.span.Span.{Span}
use Rattle.ctl_relation.specs.Inside.HeldPlaces.{AreHeld, groups_held}
use Rattle.ctl_relation.specs.Parts.{AtomParts}
use Rattle.ctl_relation.specs.Reading.{groups_read}
use Rattle.ctl_relation.specs.Spans.{IsWithin, shown}

-- a relation field: where its body stands in the bytes, and in its body where its groups begin, and the atoms behind the
-- first one of a group
pub record MarkedField : Type 0 where
  pub kind : FieldKind
  pub body : Span
  pub starts : List ℕ
  pub further : List ℕ

-- whether a code tells how many groups and further atoms a field has, so that no words need to
abbrev pub are_few : ℕ → ℕ → Bool
are_few groups further = nat_lt groups 127 && nat_eq further 0

-- the code: how many groups there are, or that two words tell how many groups and further atoms
abbrev pub code_of : ℕ → ℕ → ℕ
code_of groups further = if are_few groups further then groups else 127

-- these words
abbrev pub counts_of : ℕ → ℕ → List ℕ
counts_of groups further = if are_few groups further then [] else groups ∷ further ∷ []

-- how long the body of a field is, its code, and its place among the nine
abbrev pub word_of : MarkedField → ℕ
word_of field =
    ((field.body.end - field.body.start) * 128 + code_of (length field.starts) (length field.further)) * 16 + field_place field.kind

-- the words of a field: where its body begins, how long that is with its code and its place among the nine, the words
-- of its counts, and where its groups and further atoms begin
abbrev pub words_of : MarkedField → List ℕ
words_of field =
    field.body.start ∷ word_of field ∷ (counts_of (length field.starts) (length field.further) ++ (field.starts ++ field.further))

-- the words of fields, one field behind the other
abbrev pub words_of_all : List MarkedField → List ℕ
words_of_all fields = flat_map words_of fields

-- the groups of a field, in these bytes
abbrev pub groups_in : List ℕ → MarkedField → List (List AtomParts)
groups_in bytes field = groups_held field.kind (shown bytes field.body) field.starts field.further

-- the groups that are kept of a relation field, in these bytes; none where it wasn't given
abbrev pub kept_groups : FieldKind → List ℕ → List MarkedField → List (List AtomParts)
kept_groups kind bytes [] = []
kept_groups kind bytes (field ∷ fields) =
    if nat_eq (field_place field.kind) (field_place kind) then groups_in bytes field else kept_groups kind bytes fields

-- a relation field lies in these bytes, and its places in its body
pub record IsKeptIn (bytes : List ℕ) (field : MarkedField) : Type 0 where
  pub within : IsWithin bytes field.body
  pub places : AreHeld field.kind (shown bytes field.body) field.starts field.further

abbrev pub AreKeptIn : List ℕ → List MarkedField → Type 0
AreKeptIn bytes fields = All (IsKeptIn bytes) fields

-- these marks are those of relation fields that lie in these bytes
pub record AreMarks (bytes marks : List ℕ) (fields : List MarkedField) : Type 0 where
  pub words : marks ≡ words_of_all fields
  pub kept : AreKeptIn bytes fields

-- marks are those of some relation fields
pub record HasMarks (bytes marks : List ℕ) : Type 0 where
  pub fields : List MarkedField
  pub are : AreMarks bytes marks fields

-- one relation field more is kept, whose body stands in the bytes at a span
pub record Keeps (bytes : List ℕ) (kind : FieldKind) (body : Span) (old new : List MarkedField) : Type 0 where
  pub field : MarkedField
  pub pushed : new ≡ old ++ field ∷ []
  pub kind_is : field.kind ≡ kind
  pub body_is : field.body ≡ body
  pub kept : IsKeptIn bytes field
  pub groups : groups_in bytes field ≡ groups_read kind (shown bytes body)

-- the same where the field may be none of the nine, of which nothing is kept
abbrev pub KeepsIfRelation : List ℕ → Option FieldKind → Span → List MarkedField → List MarkedField → Type 0
KeepsIfRelation bytes None body old new = new ≡ old
KeepsIfRelation bytes (Some kind) body old new = Keeps bytes kind body old new

-- the marks of these fields, and of one more if it is a relation field
pub record AreMarksWith (bytes : List ℕ) (kind : Option FieldKind) (body : Span) (old : List MarkedField) (marks : List ℕ) : Type 0 where
  pub fields : List MarkedField
  pub words : marks ≡ words_of_all fields
  pub keeps : KeepsIfRelation bytes kind body old fields

-- a field more is marked, if it is a relation field
abbrev pub Marks : List ℕ → Option FieldKind → Span → List ℕ → List ℕ → Type 0
Marks bytes kind body old new = (fields : List MarkedField) → old ≡ words_of_all fields → AreMarksWith bytes kind body fields new
