-- Laws of the pin settings of one package.
use Rattle.std.specs.Prelude.{◌≡◌, ℕ, ℤ, List, if◌then◌else◌}
use Rattle.std.specs.Map.{remove_entry}
use Rattle.indexmap.specs.IndexMap.{insert_entry}
use Rattle.ctl_store.specs.declared.selector.Selector.{Selector}
use Rattle.ctl_store.specs.Pins.{selector_eq, is_of, own_settings}

-- settings of a package, after one of this selector is set
abbrev pub set_own : List ℕ → Selector → ℤ → List (Selector × ℤ) → List (Selector × ℤ)
set_own name s priority own = if is_of name s then insert_entry selector_eq own s priority else own

-- and after it is taken out
abbrev pub take_own : List ℕ → Selector → List (Selector × ℤ) → List (Selector × ℤ)
take_own name s own = if is_of name s then remove_entry (selector_eq s) own else own

-- What is set among all settings is set among those of its package, and leaves those of others.
abbrev pub SetsOwn : List ℕ → Selector → ℤ → List (Selector × ℤ) → Type 0
SetsOwn name s priority pins =
    own_settings name (insert_entry selector_eq pins s priority) ≡ set_own name s priority (own_settings name pins)

-- So is what is taken out.
abbrev pub TakesOwn : List ℕ → Selector → List (Selector × ℤ) → Type 0
TakesOwn name s pins = own_settings name (remove_entry (selector_eq s) pins) ≡ take_own name s (own_settings name pins)
