-- Places in lists, and slots under serial numbers.
use Rattle.std.specs.Prelude.{ℕ, zero, suc, Bool, List, [], ◌∷◌, Option, None, Some, option_map, nat_eq, if◌then◌else◌}
use Rattle.std.specs.List.{remove}
pub use Rattle.ctl_ordered.specs.Slots.{Rises}

-- the place of the first that passes
abbrev pub place : {X : Type 0} → (X → Bool) → List X → Option ℕ
place p [] = None
place p (x ∷ xs) = if p x then Some 0 else option_map (λ n. suc n) (place p xs)

-- ---- slots in the order of their serials

abbrev pub has_serial : {V : Type 0} → ℕ → ℕ × V → Bool
has_serial serial slot = nat_eq slot.0 serial

-- the slot at a place takes another value
abbrev pub replace_at : {V : Type 0} → List (ℕ × V) → ℕ → V → List (ℕ × V)
replace_at [] i x = []
replace_at (slot ∷ slots) zero x = (slot.0, x) ∷ slots
replace_at (slot ∷ slots) (suc i) x = slot ∷ replace_at slots i x

abbrev pub remove_slot_at : {V : Type 0} → Option ℕ → List (ℕ × V) → List (ℕ × V)
remove_slot_at None slots = slots
remove_slot_at (Some i) slots = remove slots i
