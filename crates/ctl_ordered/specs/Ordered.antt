-- What an ordered map keeps.
use Rattle.std.specs.Prelude.{◌≡◌, ℕ, ◌+◌, ◌-◌, min, Bool, true, false, List, [], ◌∷◌, ◌++◌, map, Option, None, Some, nat_eq, if◌then◌else◌}
use Rattle.std.specs.List.{AllByRecursion, IsDistinct}
use Rattle.std.specs.List.Sorted.{IsPartitionPoint}
use Rattle.std.specs.Map.{keys_of, lookup}
use Rattle.std.specs.Ordering.{is_lt}
use Rattle.std.specs.declared.cmp.Ordering.{Ordering}
use Rattle.std.specs.declared.cmp.Ordering.TheVariants.{Less}
use Rattle.ctl_ordered.specs.declared.slot.Slot.{Slot}
use Rattle.ctl_ordered.specs.declared.slot.Slot.TheVariants.{Entry, Hole}
use Rattle.ctl_ordered.specs.Slots.{entries_of, filled_of, Rises}

-- what an ordered map holds: its filled slots in order, each an entry under its serial; the serial of the next; and how many more go in
-- with no memory
pub record OrderedEntries (K V : Type 0) : Type 0 where
  pub filled : List (ℕ × (K × V))
  pub next : ℕ
  pub room : ℕ

module _ {K V : Type 0} where
  abbrev pub without_serials : List (ℕ × (K × V)) → List (K × V)
  without_serials filled = map (λ (slot : ℕ × (K × V)). slot.1) filled

  -- the entries, in order
  abbrev pub entries : OrderedEntries K V → List (K × V)
  entries held = without_serials held.filled

  -- the slot of the first key that passes has another value
  abbrev pub set_filled : (K → Bool) → List (ℕ × (K × V)) → V → List (ℕ × (K × V))
  set_filled test [] w = []
  set_filled test (slot ∷ filled) w = if test slot.1.0 then (slot.0, (slot.1.0, w)) ∷ filled else slot ∷ set_filled test filled w

  -- the filled slots without that of the first key that passes
  abbrev pub cut_filled : (K → Bool) → List (ℕ × (K × V)) → List (ℕ × (K × V))
  cut_filled test [] = []
  cut_filled test (slot ∷ filled) = if test slot.1.0 then filled else slot ∷ cut_filled test filled

  -- the keys, each with its serial
  abbrev pub serials_of : List (ℕ × (K × V)) → List (K × ℕ)
  serials_of filled = map (λ (slot : ℕ × (K × V)). (slot.1.0, slot.0)) filled

  -- the serial of the first key that passes
  abbrev pub filled_serial : (K → Bool) → List (ℕ × (K × V)) → Option ℕ
  filled_serial test filled = lookup test (serials_of filled)

  -- by the value that a key has: its slot has another value, and a new key goes last, under the next serial
  abbrev pub filled_put : Option V → (K → Bool) → OrderedEntries K V → K → V → List (ℕ × (K × V))
  filled_put None test held key value = held.filled ++ (held.next, (key, value)) ∷ []
  filled_put (Some old) test held key value = set_filled test held.filled value

  abbrev pub next_put : Option V → OrderedEntries K V → ℕ
  next_put None held = held.next + 1
  next_put (Some old) held = held.next

module _ {K V : Type 0} (R : K → K → Ordering) where
  -- how a slot stands to a key
  abbrev pub slot_cmp : Slot K V → K → Ordering
  slot_cmp (Entry k v) q = R k q
  slot_cmp Hole q = Less

  abbrev pub found_cmp : Option (Slot K V) → K → Ordering
  found_cmp None q = Less
  found_cmp (Some slot) q = slot_cmp slot q

  -- how the slot of a serial stands to a key
  abbrev pub order_at : List (ℕ × Slot K V) → K → ℕ → Ordering
  order_at slots q serial = found_cmp (lookup (nat_eq serial) slots) q

  -- before a place in the order the keys are below a key, and from it on none is
  abbrev pub IsBelow : List (ℕ × Slot K V) → K → List ℕ → ℕ → Type 0
  IsBelow slots q order at = IsPartitionPoint (λ s. is_lt (order_at slots q s) ≡ true) (λ s. is_lt (order_at slots q s) ≡ false) order at

module _ {K : Type 0} (R : K → K → Ordering) where
  -- the keys rise
  abbrev pub KeysRise : List (K × ℕ) → Type 0
  KeysRise [] = Unit {0}
  KeysRise (p ∷ ps) = AllByRecursion (λ k. R p.0 k ≡ Less) (keys_of ps) × KeysRise ps

module _ {K V : Type 0} (eq : K → K → Bool) where
  -- The serial of each key is that of its slot, serials rise, and no key stands twice.
  pub record HasSerials (slots : List (ℕ × Slot K V)) (serials : List (K × ℕ)) (next : ℕ) : Type 0 where
    pub found : (k : K) → lookup (eq k) serials ≡ filled_serial (eq k) (filled_of slots)
    pub rises : Rises 0 slots next
    pub apart : IsDistinct eq (keys_of (entries_of slots))

  -- The order has the serial of each key, and the keys rise in it.
  pub record IsOrdered (R : K → K → Ordering) (slots : List (ℕ × Slot K V)) (order : List ℕ) (next : ℕ) : Type 0 where
    pub pairs : List (K × ℕ)
    pub order_is : order ≡ map (λ (p : K × ℕ). p.1) pairs
    pub kept : HasSerials slots pairs next
    pub climbs : KeysRise R pairs

-- how many entries more go in with no memory: no more than both vectors have room for, and than serials are left
abbrev pub room_of : ℕ → ℕ → ℕ → ℕ
room_of slots order next = min (min slots order) (18446744073709551615 - next)
