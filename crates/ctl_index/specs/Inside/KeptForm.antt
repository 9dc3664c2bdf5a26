-- How what is kept of an atom is held beside its key.
use Rattle.std.specs.Prelude.{◌≡◌, ℕ, ◌≤◌, ⊤, Bool, List, take, codes, Option, None, Some, if◌then◌else◌}
use Rattle.ctl_relation.specs.declared.operator.Operator.{Operator}
use Rattle.ctl_relation.specs.Version.{fault_of}
use Rattle.ctl_index.specs.declared.kept_atom.AtomForm.{AtomForm}
use Rattle.ctl_index.specs.declared.kept_atom.AtomForm.TheVariants.{Without, Any, Bound, AnyBound, Elsewhere}
use Rattle.ctl_index.specs.Names.{AllButName, most_kept, is_bound_kept}

-- the qualifier `any`, or none
abbrev pub any_if : Bool → Option (List ℕ)
any_if is_any = if is_any then Some (codes "any") else None

-- what is kept of an atom of which this qualifier is kept
abbrev pub kept_with : Option (List ℕ) → Option (Operator × List ℕ) → Option AllButName
kept_with qualifier bound = if is_bound_kept bound then Some (qualifier, bound) else None

-- what is held
abbrev pub form_held : AtomForm → Option AllButName
form_held Without = Some (None, None)
form_held Any = Some (Some (codes "any"), None)
form_held (Bound operator len places) = Some (None, Some (operator, take len places))
form_held (AnyBound operator len places) = Some (Some (codes "any"), Some (operator, take len places))
form_held Elsewhere = None

-- no more places are taken than there are, by a version without a fault
abbrev pub AreTaken : ℕ → List ℕ → Type 0
AreTaken len places = (len ≤ most_kept) × (fault_of (take len places) ≡ None)

abbrev pub IsHeld : AtomForm → Type 0
IsHeld Without = ⊤
IsHeld Any = ⊤
IsHeld (Bound operator len places) = AreTaken len places
IsHeld (AnyBound operator len places) = AreTaken len places
IsHeld Elsewhere = ⊤
