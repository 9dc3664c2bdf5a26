-- Slots under rising serials, some of them holes.
use Rattle.std.specs.Prelude.{ℕ, suc, ◌≤◌, Bool, true, false, List, [], ◌∷◌, map, Option, None, Some}
use Rattle.ctl_ordered.specs.declared.slot.Slot.{Slot}
use Rattle.ctl_ordered.specs.declared.slot.Slot.TheVariants.{Entry, Hole}

-- the serials rise from n on, and stay below m
abbrev pub Rises : {X : Type 0} → ℕ → List (ℕ × X) → ℕ → Type 0
Rises n [] m = n ≤ m
Rises n (slot ∷ slots) m = (n ≤ slot.0) × Rises (suc slot.0) slots m

module _ {K V : Type 0} where
  abbrev pub entry_of : Slot K V → Option (K × V)
  entry_of (Entry k v) = Some (k, v)
  entry_of Hole = None

  abbrev pub value_of : Slot K V → Option V
  value_of (Entry k v) = Some v
  value_of Hole = None

  abbrev pub is_entry : Slot K V → Bool
  is_entry (Entry k v) = true
  is_entry Hole = false

  -- with another value
  abbrev pub with_value : Slot K V → V → Slot K V
  with_value (Entry k v) w = Entry k w
  with_value Hole w = Hole

  -- what stands in the slot of a serial, before other filled slots
  abbrev pub and_filled : ℕ → Slot K V → List (ℕ × (K × V)) → List (ℕ × (K × V))
  and_filled serial (Entry k v) filled = (serial, (k, v)) ∷ filled
  and_filled serial Hole filled = filled

  -- the slots that are filled, in order: each an entry under its serial
  abbrev pub filled_of : List (ℕ × Slot K V) → List (ℕ × (K × V))
  filled_of [] = []
  filled_of (slot ∷ slots) = and_filled slot.0 slot.1 (filled_of slots)

  -- the entries in slots, in order
  abbrev pub entries_of : List (ℕ × Slot K V) → List (K × V)
  entries_of slots = map (λ (slot : ℕ × (K × V)). slot.1) (filled_of slots)
