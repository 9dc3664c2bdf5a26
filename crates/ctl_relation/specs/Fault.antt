-- The fault of a text that is no relation field, said apart from how it is read.
-- The text is read token by token from the left. The fault stands behind the last token up to which some field of the
-- grammar reads the same, and is named by what is due there.
use Rattle.std.specs.Prelude.{◌≡◌, ◌≢◌, ◌⊎◌, ℕ, ◌<◌, ◌≤◌, ◌==◌, ◌||◌, Bool, true, false, List, [], ◌∷◌, ◌++◌, length, is_none, Option, Some, None, if◌then◌else◌}
use Rattle.std.specs.List.{list_all}
use Rattle.std.specs.Char.{is_ascii_alphanumeric}
use Rattle.ctl_relation.specs.declared.relation_fault.RelationFault.{RelationFault}
use Rattle.ctl_relation.specs.declared.relation_fault.RelationFault.TheVariants as fault
use Rattle.ctl_relation.specs.declared.field_kind.FieldKind.{FieldKind}
use Rattle.ctl_relation.specs.FieldBytes.{is_whitespace, is_qualifier_byte, is_version_word_byte}
use Rattle.ctl_relation.specs.Runs.{run, rest, Stops}
use Rattle.ctl_relation.specs.Parts.{AtomParts}
use Rattle.ctl_relation.specs.Version.{fault_of}
use Rattle.ctl_relation.specs.Names.{is_name_byte, is_name}
use Rattle.ctl_relation.specs.Bytes.{left_parenthesis, right_parenthesis, comma, colon, less_than, equals, greater_than, bar}
use Rattle.ctl_relation.specs.FieldKind.{is_provides, has_alternatives}
use Rattle.ctl_relation.specs.Grammar.{IsWhitespace, RelationsText}

-- Between two tokens: what is due there.
pub data Place : Type 0 where
  -- at the start and behind a comma: a group, a comma or the end
  GroupDue : Place
  -- behind a bar: a name
  AtomDue : Place
  -- behind a name: a colon, an open parenthesis, a bar, a comma or the end
  AfterName : Place
  -- behind a colon: a qualifier
  QualifierDue : Place
  -- behind a qualifier: an open parenthesis, a bar, a comma or the end
  AfterQualifier : Place
  -- behind an open parenthesis: an operator
  OperatorDue : Place
  -- behind `<` or `>` alone, which another byte may lengthen: that byte, or a version
  AfterSign : ℕ → Place
  -- behind an operator that no byte may lengthen: a version
  VersionDue : Place
  -- behind a version: a closing parenthesis
  CloseDue : Place
  -- behind a closing parenthesis: a bar, a comma or the end
  AfterAtom : Place

-- where a name may come next
abbrev pub takes_name : Place → Bool
takes_name GroupDue = true
takes_name AtomDue = true
takes_name _ = false

-- where an open parenthesis may come next
abbrev pub takes_bracket : Place → Bool
takes_bracket AfterName = true
takes_bracket AfterQualifier = true
takes_bracket _ = false

-- where a bar may come next, in a field that has alternatives
abbrev pub takes_bar : Place → Bool
takes_bar AfterName = true
takes_bar AfterQualifier = true
takes_bar AfterAtom = true
takes_bar _ = false

-- where a comma may come next
abbrev pub takes_comma : Place → Bool
takes_comma GroupDue = true
takes_comma AfterName = true
takes_comma AfterQualifier = true
takes_comma AfterAtom = true
takes_comma _ = false

-- where a version may come next
abbrev pub takes_version : Place → Bool
takes_version (AfterSign b) = true
takes_version VersionDue = true
takes_version _ = false

-- `<`, `>`
abbrev pub is_sign : ℕ → Bool
is_sign b = b == less_than || b == greater_than

-- whether the second byte makes one operator with a sign: `<<`, `<=`, `>=`, `>>`
abbrev pub lengthens : ℕ → ℕ → Bool
lengthens b c = c == b || c == equals

-- What was read stands at a place: it is made token by token, with whitespace in front of a token where it may stand.
pub data StandsAt (kind : FieldKind) : List ℕ → Place → Type 0 where
  at_start : StandsAt kind [] GroupDue
  comma_read : (read blanks : List ℕ) (place : Place) → StandsAt kind read place → takes_comma place ≡ true
      → IsWhitespace blanks → StandsAt kind (read ++ (blanks ++ comma ∷ [])) GroupDue
  bar_read : (read blanks : List ℕ) (place : Place) → StandsAt kind read place → takes_bar place ≡ true
      → has_alternatives kind ≡ true → IsWhitespace blanks → StandsAt kind (read ++ (blanks ++ bar ∷ [])) AtomDue
  name_read : (read blanks name : List ℕ) (place : Place) → StandsAt kind read place → takes_name place ≡ true
      → IsWhitespace blanks → is_name name ≡ true → StandsAt kind (read ++ (blanks ++ name)) AfterName
  colon_read : (read : List ℕ) → StandsAt kind read AfterName → StandsAt kind (read ++ colon ∷ []) QualifierDue
  qualifier_read : (read qualifier : List ℕ) → StandsAt kind read QualifierDue → 0 < length qualifier
      → list_all is_qualifier_byte qualifier ≡ true → StandsAt kind (read ++ qualifier) AfterQualifier
  bracket_read : (read blanks : List ℕ) (place : Place) → StandsAt kind read place → takes_bracket place ≡ true
      → IsWhitespace blanks → StandsAt kind (read ++ (blanks ++ left_parenthesis ∷ [])) OperatorDue
  equal_read : (read blanks : List ℕ) → StandsAt kind read OperatorDue
      → IsWhitespace blanks → StandsAt kind (read ++ (blanks ++ equals ∷ [])) VersionDue
  sign_read : (read blanks : List ℕ) (b : ℕ) → StandsAt kind read OperatorDue
      → IsWhitespace blanks → is_sign b ≡ true → is_provides kind ≡ false → StandsAt kind (read ++ (blanks ++ b ∷ [])) (AfterSign b)
  sign_longer : (read : List ℕ) (b c : ℕ) → StandsAt kind read (AfterSign b) → lengthens b c ≡ true
      → StandsAt kind (read ++ c ∷ []) VersionDue
  version_read : (read blanks version : List ℕ) (place : Place) → StandsAt kind read place → takes_version place ≡ true
      → IsWhitespace blanks → fault_of version ≡ None → StandsAt kind (read ++ (blanks ++ version)) CloseDue
  close_read : (read blanks : List ℕ) → StandsAt kind read CloseDue
      → IsWhitespace blanks → StandsAt kind (read ++ (blanks ++ right_parenthesis ∷ [])) AfterAtom

-- The last token does not go on in what is left.
abbrev pub IsWhole : Place → List ℕ → Type 0
IsWhole AfterName left = Stops is_name_byte left
IsWhole AfterQualifier left = Stops is_qualifier_byte left
IsWhole CloseDue left = Stops is_version_word_byte left
IsWhole _ left = Unit {0}

-- ---- the fault by what is left: none where what is due comes first, or where the token before goes on

-- a name begins with a letter or a digit
abbrev pub name_fault : List ℕ → Option RelationFault
name_fault [] = Some fault.Name
name_fault (b ∷ text) = if is_ascii_alphanumeric b then None else Some fault.Name

-- a group, a comma or the end; a bar is no comma, so that what is missing is a name
abbrev pub group_fault : List ℕ → Option RelationFault
group_fault [] = None
group_fault (b ∷ text) = if b == comma then None else name_fault (b ∷ text)

-- A missing qualifier is a missing name.
abbrev pub qualifier_fault : List ℕ → Option RelationFault
qualifier_fault [] = Some fault.Name
qualifier_fault (b ∷ text) = if is_qualifier_byte b then None else Some fault.Name

-- behind an atom: the end, a comma, or a bar where the field has alternatives
abbrev pub end_fault : FieldKind → List ℕ → Option RelationFault
end_fault kind [] = None
end_fault kind (b ∷ text) =
    if b == comma then None else (
    if b == bar then (if has_alternatives kind then None else Some fault.Alternative) else Some fault.Name)

-- behind a name or a qualifier: an open parenthesis too
abbrev pub bracket_fault : FieldKind → List ℕ → Option RelationFault
bracket_fault kind [] = None
bracket_fault kind (b ∷ text) = if b == left_parenthesis then None else end_fault kind (b ∷ text)

-- The name goes on, or a colon stands directly behind it, or what else may follow stands behind whitespace.
abbrev pub after_name_fault : FieldKind → List ℕ → Option RelationFault
after_name_fault kind [] = None
after_name_fault kind (b ∷ text) =
    if is_name_byte b then None else (
    if b == colon then None else bracket_fault kind (rest is_whitespace (b ∷ text)))

-- The qualifier goes on, or what may follow stands behind whitespace.
abbrev pub after_qualifier_fault : FieldKind → List ℕ → Option RelationFault
after_qualifier_fault kind [] = None
after_qualifier_fault kind (b ∷ text) = if is_qualifier_byte b then None else bracket_fault kind (rest is_whitespace (b ∷ text))

-- In Provides `<` and `>` begin an operator that is not `=`.
abbrev pub operator_fault : FieldKind → List ℕ → Option RelationFault
operator_fault kind [] = Some fault.Operator
operator_fault kind (b ∷ text) =
    if b == equals then None else (
    if is_sign b then (if is_provides kind then Some fault.ProvidesOperator else None) else Some fault.Operator)

-- A version goes up to whitespace, a closing parenthesis or the end, and is judged whole.
abbrev pub version_fault : List ℕ → Option RelationFault
version_fault text = if is_none (fault_of (run is_version_word_byte text)) then None else Some fault.Version

-- The operator goes on, or a version stands behind whitespace.
abbrev pub after_sign_fault : ℕ → List ℕ → Option RelationFault
after_sign_fault b [] = Some fault.Version
after_sign_fault b (c ∷ text) = if lengthens b c then None else version_fault (rest is_whitespace (c ∷ text))

abbrev pub close_fault : List ℕ → Option RelationFault
close_fault [] = Some fault.Close
close_fault (b ∷ text) = if b == right_parenthesis then None else Some fault.Close

-- The version goes on, or the parenthesis stands behind whitespace.
abbrev pub after_version_fault : List ℕ → Option RelationFault
after_version_fault [] = Some fault.Close
after_version_fault (b ∷ text) = if is_version_word_byte b then None else close_fault (rest is_whitespace (b ∷ text))

-- the fault at a place, by what is left there
abbrev pub due_fault : FieldKind → Place → List ℕ → Option RelationFault
due_fault kind GroupDue left = group_fault (rest is_whitespace left)
due_fault kind AtomDue left = name_fault (rest is_whitespace left)
due_fault kind AfterName left = after_name_fault kind left
due_fault kind QualifierDue left = qualifier_fault left
due_fault kind AfterQualifier left = after_qualifier_fault kind left
due_fault kind OperatorDue left = operator_fault kind (rest is_whitespace left)
due_fault kind (AfterSign b) left = after_sign_fault b left
due_fault kind VersionDue left = version_fault (rest is_whitespace left)
due_fault kind CloseDue left = after_version_fault left
due_fault kind AfterAtom left = end_fault kind (rest is_whitespace left)

-- The body stands at a place that some field reaches, and goes on otherwise than is due there.
pub record IsFault (kind : FieldKind) (body : List ℕ) (f : RelationFault) : Type 0 where
  pub read : List ℕ
  pub left : List ℕ
  pub place : Place
  pub whole : body ≡ read ++ left
  pub stands : StandsAt kind read place
  pub due : due_fault kind place left ≡ Some f

-- Each place can be continued to a field.
abbrev pub Continues : Type 0
Continues =
    (kind : FieldKind) (read : List ℕ) (place : Place) → StandsAt kind read place
    → (more : List ℕ) × (groups : List (List AtomParts)) × RelationsText kind (read ++ more) groups

-- No whole tokens that some field begins with reach further into the body than to its fault.
abbrev pub StandsLast : Type 0
StandsLast =
    (kind : FieldKind) (body : List ℕ) (f : RelationFault) (found : IsFault kind body f) (read left : List ℕ) (place : Place)
    → body ≡ read ++ left → StandsAt kind read place → IsWhole place left → length read ≤ length found.read

-- A body has groups or a fault,
abbrev pub GroupsOrFault : Type 0
GroupsOrFault =
    (kind : FieldKind) (body : List ℕ)
    → ((groups : List (List AtomParts)) × RelationsText kind body groups) ⊎ ((f : RelationFault) × IsFault kind body f)

-- never both,
abbrev pub NeverBoth : Type 0
NeverBoth =
    (kind : FieldKind) (body : List ℕ) (f : RelationFault) (groups : List (List AtomParts))
    → IsFault kind body f → RelationsText kind body groups → ⊥

-- and one fault,
abbrev pub OneFault : Type 0
OneFault = (kind : FieldKind) (body : List ℕ) (f g : RelationFault) → IsFault kind body f → IsFault kind body g → f ≡ g

-- which isn't that memory ran out.
abbrev pub NeverMemory : Type 0
NeverMemory = (kind : FieldKind) (body : List ℕ) (f : RelationFault) → IsFault kind body f → f ≢ fault.Memory
