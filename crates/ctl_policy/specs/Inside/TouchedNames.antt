-- The packages that stand under what an edit touches.
use Rattle.std.specs.Prelude.{◌≡◌, ℕ, Bool, false, ◌++◌, List, [], ◌∷◌, Option, None, Some, if◌then◌else◌}
use Rattle.std.specs.Option.{option_eq}
use Rattle.std.specs.Ordering.{int_eq}
use Rattle.ctl_stanza.specs.declared.list_kind.ListKind.{ListKind}
use Rattle.ctl_stanza.specs.Content.{Content, package_of}
use Rattle.ctl_store.specs.declared.list_class.ListClass.{ListClass}
use Rattle.ctl_store.specs.declared.selector.Selector.{Selector}
use Rattle.ctl_store.specs.declared.selector.Selector.TheVariants.{Version, Release}
use Rattle.ctl_store.specs.Keys.{stanza_at, all_in}
use Rattle.ctl_store.specs.Store.{Held, state_of}
use Rattle.ctl_store.specs.State.{shown_lists}
use Rattle.ctl_policy.specs.Rows.{Lists}
use Rattle.ctl_policy.specs.Priority.{World, Settings, list_priority, world_of}
use Rattle.ctl_policy.specs.Laws.{with_pins}
use Rattle.ctl_policy.specs.Touched.{TargetHoldsNone, is_one_of, packages_at}

-- it holds of each name but these
abbrev pub HoldsOfOthers : List (List ℕ) → (List ℕ → Type 0) → Type 0
HoldsOfOthers names P = (name : List ℕ) → is_one_of name names ≡ false → P name

-- a list of this name, if one is named, holds live stanzas of these names alone
abbrev pub TargetHoldsAlone : List (List ℕ) → Option (List ℕ) → Lists → Type 0
TargetHoldsAlone names target lists = HoldsOfOthers names (λ name. TargetHoldsNone target name lists)

-- the package of a stanza, if there is one
abbrev pub package_found : Option Content → List (List ℕ)
package_found None = []
package_found (Some x) = package_of x ∷ []

-- the packages of the stanzas of a list
abbrev pub packages_in : List ℕ → Lists → List (List ℕ)
packages_in list lists = packages_at (all_in list lists) (λ k. stanza_at k lists)

-- those of the target release, if a list is one
abbrev pub target_packages : Option (List ℕ) → Lists → List (List ℕ)
target_packages None lists = []
target_packages (Some list) lists = packages_in list lists

-- the package of a selector, where it is of one
abbrev pub selected_package : Selector → List (List ℕ)
selected_package (Version «package» version) = «package» ∷ []
selected_package (Release None list) = []
selected_package (Release (Some «package») list) = «package» ∷ []

-- the packages of specific pins
abbrev pub pinned_packages : Settings → List (List ℕ)
pinned_packages [] = []
pinned_packages (s ∷ settings) = selected_package s.0 ++ pinned_packages settings

-- a list has the priority that it has, once these settings take the place of all
abbrev pub keeps_priority : Settings → World → List ℕ → Bool
keeps_priority pins w list = option_eq int_eq (list_priority list w) (list_priority list (with_pins pins w))

-- the packages of the lists that don't keep theirs
abbrev pub repinned_packages : Settings → World → List (List ℕ × ListKind × ListClass) → List (List ℕ)
repinned_packages pins w [] = []
repinned_packages pins w (l ∷ ls) = (if keeps_priority pins w l.0 then [] else packages_in l.0 w.lists) ++ repinned_packages pins w ls

-- those of the lists of a store
abbrev pub repinned_in : Settings → Held → List (List ℕ)
repinned_in pins h = repinned_packages pins (world_of h) (shown_lists (state_of h).lists)
