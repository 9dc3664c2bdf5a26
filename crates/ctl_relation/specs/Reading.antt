-- How a relation field is read from left to right, up to its first fault (Debian Policy 7.1).
-- What this reads is said apart from it by the grammar (Grammar) and by the place of the fault (Fault).
use Rattle.std.specs.Prelude.{◌≡◌, ◌≢◌, ◌+◌, ℕ, zero, suc, ◌==◌, ◌&&◌, not, List, [], ◌∷◌, length, is_none, Option, Some, None, Result, Ok, Err, if◌then◌else◌}
use Rattle.ctl_relation.specs.declared.relation_fault.RelationFault.{RelationFault}
use Rattle.ctl_relation.specs.declared.relation_fault.RelationFault.TheVariants as fault
use Rattle.ctl_relation.specs.declared.operator.Operator.{Operator}
use Rattle.ctl_relation.specs.declared.operator.Operator.TheVariants.{Earlier, EarlierOrEqual, Equal, LaterOrEqual, Later}
use Rattle.ctl_relation.specs.declared.field_kind.FieldKind.{FieldKind}
use Rattle.ctl_relation.specs.Bytes.{left_parenthesis, right_parenthesis, comma, colon, less_than, equals, greater_than, bar}
use Rattle.ctl_relation.specs.FieldBytes.{is_whitespace, is_qualifier_byte, is_version_word_byte}
use Rattle.ctl_relation.specs.Runs.{run, rest}
use Rattle.ctl_relation.specs.FieldKind.{has_alternatives, is_provides, is_exact}
use Rattle.ctl_relation.specs.Names.{is_name_byte, is_name}
use Rattle.ctl_relation.specs.Parts.{AtomParts}
use Rattle.ctl_relation.specs.Version.{fault_of}

-- one step and then the next, or the fault of the first
infixl 10 ◌>>=◌
abbrev pub ◌>>=◌ : {A B : Type 0} → Result A RelationFault → (A → Result B RelationFault) → Result B RelationFault
(Ok x) >>= f = f x
(Err e) >>= f = Err e

-- What a function returned, seen by view, is what reading gives, unless memory ran out.
abbrev pub Gives : {X Y : Type 0} → (X → Y) → Result X RelationFault → Result Y RelationFault → Type 0
Gives view (Ok x) read = read ≡ Ok (view x)
Gives view (Err e) read = e ≢ fault.Memory → read ≡ Err e

-- What a function returned, seen by view, is what reading gives.
abbrev pub GivesAlways : {X Y : Type 0} → (X → Y) → Result X RelationFault → Result Y RelationFault → Type 0
GivesAlways view (Ok x) read = read ≡ Ok (view x)
GivesAlways view (Err e) read = read ≡ Err e

-- ---- tokens

-- A name is the longest run of the bytes of names.
abbrev pub name_at : List ℕ → Result (List ℕ × List ℕ) RelationFault
name_at text = if is_name (run is_name_byte text) then Ok (run is_name_byte text, rest is_name_byte text) else Err fault.Name

-- A colon begins a qualifier, of at least one byte.
abbrev pub qualifier_at : List ℕ → Result (Option (List ℕ) × List ℕ) RelationFault
qualifier_at [] = Ok (None, [])
qualifier_at (b ∷ text) =
    if b == colon then (
    if length (run is_qualifier_byte text) == 0 then Err fault.Name
    else Ok (Some (run is_qualifier_byte text), rest is_qualifier_byte text))
    else Ok (None, b ∷ text)

-- the operator that begins with this byte, by the bytes behind it: the longest that fits, and `<` is `<=`, `>` is `>=`
abbrev pub operator_behind : ℕ → List ℕ → Option (Operator × List ℕ)
operator_behind b [] =
    if b == less_than then Some (EarlierOrEqual, []) else (
    if b == greater_than then Some (LaterOrEqual, []) else (
    if b == equals then Some (Equal, []) else None))
operator_behind b (d ∷ text) =
    if b == equals then Some (Equal, d ∷ text) else (
    if b == less_than then (
    if d == less_than then Some (Earlier, text) else (
    if d == equals then Some (EarlierOrEqual, text) else Some (EarlierOrEqual, d ∷ text))) else (
    if b == greater_than then (
    if d == greater_than then Some (Later, text) else (
    if d == equals then Some (LaterOrEqual, text) else Some (LaterOrEqual, d ∷ text))) else None))

abbrev pub operator_token : List ℕ → Option (Operator × List ℕ)
operator_token [] = None
operator_token (b ∷ text) = operator_behind b text

-- Provides has `=` alone.
abbrev pub allowed : FieldKind → Option (Operator × List ℕ) → Result (Operator × List ℕ) RelationFault
allowed kind None = Err fault.Operator
allowed kind (Some op) = if is_provides kind && not (is_exact op.0) then Err fault.ProvidesOperator else Ok op

abbrev pub operator_at : FieldKind → List ℕ → Result (Operator × List ℕ) RelationFault
operator_at kind text = allowed kind (operator_token text)

abbrev pub version_at : List ℕ → Result (List ℕ × List ℕ) RelationFault
version_at text =
    if is_none (fault_of (run is_version_word_byte text)) then Ok (run is_version_word_byte text, rest is_version_word_byte text)
    else Err fault.Version

abbrev pub close_at : List ℕ → Result (List ℕ) RelationFault
close_at [] = Err fault.Close
close_at (b ∷ text) = if b == right_parenthesis then Ok text else Err fault.Close

-- ---- atoms

-- behind an open parenthesis: an operator, a version, and the closing one
unfoldable pub parenthesized_at : FieldKind → List ℕ → Result ((Operator × List ℕ) × List ℕ) RelationFault
parenthesized_at kind text = do
  op ← operator_at kind (rest is_whitespace text)
  version ← version_at (rest is_whitespace op.1)
  after ← close_at (rest is_whitespace version.1)
  Ok ((op.0, version.0), after)

-- An open parenthesis begins a bound; without one nothing is taken, not even the whitespace.
abbrev pub bound_behind : FieldKind → List ℕ → List ℕ → Result (Option (Operator × List ℕ) × List ℕ) RelationFault
bound_behind kind text [] = Ok (None, text)
bound_behind kind text (b ∷ behind) =
    if b == left_parenthesis then (parenthesized_at kind behind >>= λ x. Ok (Some x.0, x.1)) else Ok (None, text)

abbrev pub bound_at : FieldKind → List ℕ → Result (Option (Operator × List ℕ) × List ℕ) RelationFault
bound_at kind text = bound_behind kind text (rest is_whitespace text)

-- the name, the qualifier, the bound
unfoldable pub atom_at : FieldKind → List ℕ → Result (AtomParts × List ℕ) RelationFault
atom_at kind text = do
  name ← name_at text
  qualifier ← qualifier_at name.1
  bound ← bound_at kind qualifier.1
  Ok (record { name = name.0; qualifier = qualifier.0; bound = bound.0 }, bound.1)

-- ---- groups

-- what stands behind the byte c, if it comes first
abbrev pub behind_byte : ℕ → List ℕ → Option (List ℕ)
behind_byte c [] = None
behind_byte c (b ∷ text) = if b == c then Some text else None

-- behind an atom: a bar and further atoms, or the end of the group
abbrev pub alternatives :
    FieldKind → (List ℕ → Result (List AtomParts × List ℕ) RelationFault) → AtomParts × List ℕ → Option (List ℕ)
    → Result (List AtomParts × List ℕ) RelationFault
alternatives kind others atom None = Ok (atom.0 ∷ [], atom.1)
alternatives kind others atom (Some text) =
    if has_alternatives kind then (others (rest is_whitespace text) >>= λ x. Ok (atom.0 ∷ x.0, x.1)) else Err fault.Alternative

-- Each atom takes a byte, so that as many turns as there are bytes suffice.
abbrev pub group_at : ℕ → FieldKind → List ℕ → Result (List AtomParts × List ℕ) RelationFault
group_at zero kind text = Err fault.Name
group_at (suc n) kind text =
    atom_at kind text >>= λ atom. alternatives kind (group_at n kind) atom (behind_byte bar (rest is_whitespace atom.1))

-- behind a group: a comma and further groups, or the end
abbrev pub groups_behind :
    (List ℕ → Result (List (List AtomParts)) RelationFault) → List AtomParts → List ℕ → Option (List ℕ)
    → Result (List (List AtomParts)) RelationFault
groups_behind others group after (Some text) = others text >>= λ x. Ok (group ∷ x)
groups_behind others group after None = if length after == 0 then Ok (group ∷ []) else Err fault.Name

-- a comma, the end, or a group
abbrev pub groups_from :
    (List ℕ → Result (List (List AtomParts)) RelationFault) → FieldKind → List ℕ → Option (List ℕ)
    → Result (List (List AtomParts)) RelationFault
groups_from others kind text (Some behind) = others behind
groups_from others kind text None =
    if length text == 0 then Ok []
    else (group_at (length text + 1) kind text
    >>= λ group. groups_behind others group.0 (rest is_whitespace group.1) (behind_byte comma (rest is_whitespace group.1)))

abbrev pub groups_at : ℕ → FieldKind → List ℕ → Result (List (List AtomParts)) RelationFault
groups_at zero kind text = Err fault.Name
groups_at (suc n) kind text = groups_from (groups_at n kind) kind (rest is_whitespace text) (behind_byte comma (rest is_whitespace text))

-- what the body of a field is read to
abbrev pub relations_of : FieldKind → List ℕ → Result (List (List AtomParts)) RelationFault
relations_of kind body = groups_at (length body + 1) kind body

-- the groups that were read, and none where a body is at fault
abbrev pub groups_or_none : Result (List (List AtomParts)) RelationFault → List (List AtomParts)
groups_or_none (Ok groups) = groups
groups_or_none (Err fault) = []

-- the groups that a body is read to, none where it is at fault
abbrev pub groups_read : FieldKind → List ℕ → List (List AtomParts)
groups_read kind body = groups_or_none (relations_of kind body)
