-- Slots under rising serials, and an order of their labels by which one is found.
use Rattle.std.specs.Prelude.{◌≡◌, ℕ, suc, List, [], ◌∷◌, map, Option, nat_eq, if◌then◌else◌}
use Rattle.std.specs.Option.{option_map_or}
use Rattle.std.specs.Map.{lookup}
use Rattle.std.specs.Ordering.{is_gt, is_lt, is_eq}
use Rattle.std.specs.declared.cmp.Ordering.{Ordering}
use Rattle.std.specs.declared.cmp.Ordering.TheVariants.{Less}
use Rattle.ctl_store.specs.Places.{place, Rises}

-- slots by their labels
abbrev pub labelled : {L T : Type 0} → (ℕ × T → L) → List (ℕ × T) → List (ℕ × L)
labelled label slots = map (λ slot. (slot.0, label slot)) slots

module _ {L : Type 0} (R : L → L → Ordering) where
  -- before the first that isn't smaller
  abbrev pub insert_in : ℕ × L → List (ℕ × L) → List (ℕ × L)
  insert_in x [] = x ∷ []
  insert_in x (y ∷ ys) = if is_gt (R x.1 y.1) then y ∷ insert_in x ys else x ∷ y ∷ ys

  -- by labels, and where these are equal as they stood
  abbrev pub sorted_in : List (ℕ × L) → List (ℕ × L)
  sorted_in [] = []
  sorted_in (x ∷ xs) = insert_in x (sorted_in xs)

  -- how many stand before the first that isn't smaller
  abbrev pub below_in : L → List (ℕ × L) → ℕ
  below_in wanted [] = 0
  below_in wanted (x ∷ xs) = if is_lt (R x.1 wanted) then suc (below_in wanted xs) else 0

  module _ {T : Type 0} (label : ℕ × T → L) where
    -- how the slot of a serial stands to a label
    abbrev pub order_in : List (ℕ × T) → L → ℕ → Ordering
    order_in slots wanted serial = option_map_or (λ (x : T). R (label (serial, x)) wanted) (lookup (λ k. nat_eq k serial) slots) Less

    -- the place of the first slot of a label
    abbrev pub place_in : L → List (ℕ × T) → Option ℕ
    place_in wanted slots = place (λ (slot : ℕ × T). is_eq (R (label slot) wanted)) slots

    -- The serials rise, and the order has an entry of each of them.
    pub record IsRankedBy {E : Type 0} (entry : ℕ × L → E) (slots : List (ℕ × T)) (next : ℕ) (order : List E) : Type 0 where
      pub rises : Rises 0 slots next
      pub ordered : order ≡ map entry (sorted_in (labelled label slots))
