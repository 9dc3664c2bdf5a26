-- How pin settings are held so that those of a package are found: their serials in the order of packages.
use Rattle.std.specs.Prelude.{◌≡◌, ◌≤◌, ℕ, ℤ, List, [], ◌∷◌, length, Vec, Option, None, Some, nat_eq, if◌then◌else◌}
use Rattle.std.specs.Option.{option_map_or}
use Rattle.std.specs.Map.{lookup}
use Rattle.std.specs.Vec.{vec_capacity}
use Rattle.ctl_store.specs.declared.selector.PinSetting.{PinSetting}
use Rattle.std.specs.Ordering.{nat_cmp, ordering_then}
use Rattle.std.specs.declared.cmp.Ordering.{Ordering}
use Rattle.ctl_store.specs.declared.selector.Selector.{Selector}
use Rattle.ctl_store.specs.Pins.{is_of, package_for}
use Rattle.ctl_store.specs.SelectorLaws.{package_cmp}
use Rattle.ctl_store.specs.Inside.Sorted.{labelled, sorted_in, below_in, order_in, IsRankedBy}

-- a table of pin settings, with the room for more, how many come with no memory, and the serial of the next new one
pub record PinTable : Type 0 where
  pub pins : List (Selector × ℤ)
  pub room : ℕ
  pub next : ℕ

-- by packages, and for one package by serials
abbrev pub own_cmp : Option (List ℕ) × ℕ → Option (List ℕ) × ℕ → Ordering
own_cmp a b = ordering_then (package_cmp a.0 b.0) (nat_cmp a.1 b.1)

-- where a setting stands
abbrev pub own_slot : ℕ × (Selector × ℤ) → Option (List ℕ) × ℕ
own_slot slot = (package_for slot.1.0, slot.0)

-- how many settings stand before a package and a serial
abbrev pub own_below : Option (List ℕ) × ℕ → List (ℕ × (Selector × ℤ)) → ℕ
own_below wanted slots = below_in own_cmp wanted (sorted_in own_cmp (labelled own_slot slots))

-- how the setting of a serial stands to a package and a serial
abbrev pub own_order : List (ℕ × (Selector × ℤ)) → Option (List ℕ) × ℕ → ℕ → Ordering
own_order slots wanted serial = order_in own_cmp own_slot slots wanted serial

-- The serials rise, and the order has each of them.
abbrev pub IsRanked : List (ℕ × (Selector × ℤ)) → ℕ → List ℕ → Type 0
IsRanked slots next order = IsRankedBy own_cmp own_slot (λ (x : ℕ × (Option (List ℕ) × ℕ)). x.0) slots next order

-- as many serials as settings are given, and there is room to give these back
pub record IsWhole {C : Type 0} (table : PinTable) (room : Vec PinSetting C) : Type 0 where
  pub counted : table.next ≡ length table.pins
  pub empty : room.items ≡ []
  pub fits : length table.pins ≤ vec_capacity room

-- a setting, where it is one of the package
abbrev pub own_one : List ℕ → Option (Selector × ℤ) → Option (Selector × ℤ)
own_one name None = None
own_one name (Some setting) = if is_of name setting.0 then Some setting else None

-- the settings of the first serials, as far as they are of the package
abbrev pub own_run : List ℕ → List (ℕ × (Selector × ℤ)) → List ℕ → List (Selector × ℤ)
own_run name slots [] = []
own_run name slots (serial ∷ serials) =
    option_map_or (λ (setting : Selector × ℤ). setting ∷ own_run name slots serials) (own_one name (lookup (nat_eq serial) slots)) []
