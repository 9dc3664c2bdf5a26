-- Parts of a text that stand in it just as they are printed.
use Rattle.std.specs.Prelude.{◌≡◌, ℕ, ◌==◌, Bool, true, List, [], ◌∷◌, ◌++◌, Ok}
use Rattle.ctl_relation.specs.declared.field_kind.FieldKind.{FieldKind}
use Rattle.ctl_relation.specs.declared.operator.Operator.{Operator}
use Rattle.ctl_relation.specs.Bytes.{space, comma, right_parenthesis}
use Rattle.ctl_relation.specs.Parts.{AtomParts}
use Rattle.ctl_relation.specs.Printed.{operator_text, atom_text}
use Rattle.ctl_relation.specs.Reading.{atom_at, parenthesized_at}

-- The bound that is read behind an open parenthesis stands there as it is printed, up to what is left.
abbrev pub IsPrintedBound : List ℕ → List ℕ → Type 0
IsPrintedBound text left =
    (kind : FieldKind) (bound : Operator × List ℕ) (after : List ℕ) → parenthesized_at kind text ≡ Ok (bound, after)
    → text ≡ operator_text bound.0 ++ space ∷ (bound.1 ++ right_parenthesis ∷ left)

-- The atom that is read at the front is printed so.
abbrev pub IsPrintedAtom : List ℕ → List ℕ → Type 0
IsPrintedAtom text printed =
    (kind : FieldKind) (atom : AtomParts) (left : List ℕ) → atom_at kind text ≡ Ok (atom, left) → printed ≡ atom_text atom

-- Whether an atom that is its name alone ends in front of a text: where that is empty, or begins with a comma.
abbrev pub ends_name : List ℕ → Bool
ends_name [] = true
ends_name (b ∷ text) = b == comma
