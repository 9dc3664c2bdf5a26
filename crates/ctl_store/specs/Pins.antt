-- Pin settings, and when two selectors are the same.
use Rattle.std.specs.Prelude.{ℕ, ℤ, ◌&&◌, Bool, true, false, List, filter, map, Option, Some, None}
use Rattle.std.specs.List.{IsDistinct}
use Rattle.std.specs.Map.{lookup, keys_of as names_of}
use Rattle.std.specs.Str.{bytes_eq}
use Rattle.ctl_store.specs.declared.selector.PinSetting.{PinSetting}
use Rattle.ctl_store.specs.declared.selector.Selector.{Selector}
use Rattle.ctl_store.specs.declared.selector.Selector.TheVariants.{Version, Release}

abbrev pub package_eq : Option (List ℕ) → Option (List ℕ) → Bool
package_eq None None = true
package_eq None (Some b) = false
package_eq (Some a) None = false
package_eq (Some a) (Some b) = bytes_eq a b

-- Two selectors are the same where package, form and bytes are.
abbrev pub selector_eq : Selector → Selector → Bool
selector_eq (Version a v) (Version b w) = bytes_eq a b && bytes_eq v w
selector_eq (Version a v) (Release b l) = false
selector_eq (Release a k) (Version b w) = false
selector_eq (Release a k) (Release b l) = package_eq a b && bytes_eq k l

-- the package that a selector is for, if it is for one
abbrev pub package_for : Selector → Option (List ℕ)
package_for (Version «package» version) = Some «package»
package_for (Release «package» list) = «package»

-- its form, and the version or list
abbrev pub asked_of : Selector → ℕ × List ℕ
asked_of (Version «package» version) = (0, version)
asked_of (Release «package» list) = (1, list)

-- no selector stands twice
abbrev pub AreDistinct : List (Selector × ℤ) → Type 0
AreDistinct pins = IsDistinct selector_eq (names_of pins)

-- pin settings that take the place of all
pub record NewPins : Type 0 where
  pub pins : List (Selector × ℤ)

-- settings as pairs of a selector and its priority
abbrev pub settings_of : List PinSetting → List (Selector × ℤ)
settings_of settings = map (λ (s : PinSetting). (s.selector, s.priority)) settings

-- ---- what a pin setting is for (apt_preferences(5))

-- a general pin on the list of this name
abbrev pub is_general_on : List ℕ → Selector → Bool
is_general_on list (Version «package» version) = false
is_general_on list (Release None named) = bytes_eq named list
is_general_on list (Release (Some «package») named) = false

-- the priority of the first general pin on a list, if there is one
abbrev pub general_pin : List ℕ → List (Selector × ℤ) → Option ℤ
general_pin list pins = lookup (is_general_on list) pins

-- a specific pin of a package
abbrev pub is_of : List ℕ → Selector → Bool
is_of name (Version «package» version) = bytes_eq «package» name
is_of name (Release None list) = false
is_of name (Release (Some «package») list) = bytes_eq «package» name

-- the specific pins of a package, in order
abbrev pub own_settings : List ℕ → List (Selector × ℤ) → List (Selector × ℤ)
own_settings name pins = filter (λ (s : Selector × ℤ). is_of name s.0) pins
