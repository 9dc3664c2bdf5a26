-- The stanzas of a list under their serial numbers, and the order by which one is found.
use Rattle.std.specs.Prelude.{ℕ, suc, ◌+◌, Bool, List, [], ◌∷◌, ◌++◌, Option, None, Some, map, option_map, nat_eq}
use Rattle.std.specs.Option.{option_cmp}
use Rattle.std.specs.Map.{lookup}
use Rattle.std.specs.Ordering.{nat_cmp, ordering_then}
use Rattle.std.specs.Cmp.Lexicographic.{slice_cmp}
use Rattle.std.specs.declared.cmp.Ordering.{Ordering}
use Rattle.ctl_relation.specs.Version.{Triple, triple_of, triple_cmp}
use Rattle.ctl_stanza.specs.Content.{Content, package_of, version_of}
use Rattle.ctl_store.specs.Step.{is_same}
use Rattle.ctl_store.specs.Places.{place}
use Rattle.ctl_store.specs.declared.fronts.Placed.{Placed}
use Rattle.ctl_store.specs.Fronts.{front_of}
use Rattle.ctl_store.specs.Inside.Sorted.{labelled, sorted_in, below_in, order_in, IsRankedBy}
pub use Rattle.ctl_store.specs.Places.{has_serial, Rises, replace_at, remove_slot_at}

-- ---- slots in the order of their serials

-- slots under the serials from n on
abbrev pub slots_from : {V : Type 0} → ℕ → List V → List (ℕ × V)
slots_from n [] = []
slots_from n (x ∷ xs) = (n, x) ∷ slots_from (suc n) xs

abbrev pub by_name_and_version : List ℕ → Option (List ℕ) → ℕ × Content → Bool
by_name_and_version name version slot = is_same name version slot.1

abbrev pub put_slot_at : Option ℕ → Content → ℕ → List (ℕ × Content) → List (ℕ × Content)
put_slot_at None x next slots = slots ++ (next, x) ∷ []
put_slot_at (Some i) x next slots = replace_at slots i x

-- in the place of the first of its name and version, else last
abbrev pub put_slot : Content → ℕ → List (ℕ × Content) → List (ℕ × Content)
put_slot x next slots = put_slot_at (place (by_name_and_version (package_of x) (version_of x)) slots) x next slots

abbrev pub next_at : Option ℕ → ℕ → ℕ
next_at None next = next + 1
next_at (Some i) next = next

abbrev pub next_after_put : Content → ℕ → List (ℕ × Content) → ℕ
next_after_put x next slots = next_at (place (by_name_and_version (package_of x) (version_of x)) slots) next

-- without the first of this name and version
abbrev pub remove_slot : List ℕ → Option (List ℕ) → List (ℕ × Content) → List (ℕ × Content)
remove_slot name version slots = remove_slot_at (place (by_name_and_version name version) slots) slots

-- ---- the order of names and versions

-- What a stanza is found by. Equal versions have one triple.
pub record Id : Type 0 where
  pub name : List ℕ
  pub version : Option Triple

abbrev pub version_id : Option (List ℕ) → Option Triple
version_id version = option_map triple_of version

abbrev pub id : List ℕ → Option (List ℕ) → Id
id name version = record { name = name; version = version_id version }

abbrev pub id_of : Content → Id
id_of content = id (package_of content) (version_of content)

-- no version stands before each version
abbrev pub version_order : Option Triple → Option Triple → Ordering
version_order a b = option_cmp triple_cmp a b

abbrev pub id_cmp : Id → Id → Ordering
id_cmp a b = ordering_then (slice_cmp nat_cmp a.name b.name) (version_order a.version b.version)

abbrev pub slot_id : ℕ × Content → Id
slot_id slot = id_of slot.1

abbrev pub ids_of : List (ℕ × Content) → List (ℕ × Id)
ids_of slots = labelled slot_id slots

-- in the order of names and versions, and of serials where these are equal
abbrev pub sorted_ids : List (ℕ × Id) → List (ℕ × Id)
sorted_ids xs = sorted_in id_cmp xs

-- an entry of that order: a serial, with the front of the name
abbrev pub placed : ℕ × Id → Placed
placed x = record { front = front_of x.1.name; serial = x.0 }

abbrev pub placed_slot : ℕ × Content → Placed
placed_slot slot = placed (slot.0, slot_id slot)

-- the entries of slots in that order
abbrev pub sorted_placed : List (ℕ × Content) → List Placed
sorted_placed slots = map placed (sorted_ids (ids_of slots))

-- how many stand before the first that isn't smaller
abbrev pub lower : Id → List (ℕ × Id) → ℕ
lower wanted xs = below_in id_cmp wanted xs

-- what the slot of a serial is found by
abbrev pub id_under : List (ℕ × Content) → ℕ → Option Id
id_under slots serial = option_map id_of (lookup (λ k. nat_eq k serial) slots)

-- how the slots of two serials stand, by names and versions and then by the serials
abbrev pub serial_cmp : List (ℕ × Content) → ℕ → ℕ → Ordering
serial_cmp slots one other = ordering_then (option_cmp id_cmp (id_under slots one) (id_under slots other)) (nat_cmp one other)

-- The serials rise, and the order has an entry of each of them.
abbrev pub HasOrder : List (ℕ × Content) → ℕ → List Placed → Type 0
HasOrder slots next order = IsRankedBy id_cmp slot_id placed slots next order

-- how the slot of a serial stands to a name and a version
abbrev pub order_at : List (ℕ × Content) → Id → ℕ → Ordering
order_at slots wanted serial = order_in id_cmp slot_id slots wanted serial

-- how fronts stand, and where they are equal the slots
abbrev pub placed_at : List (ℕ × Content) → Id → Placed → Ordering
placed_at slots wanted one = ordering_then (nat_cmp one.front (front_of wanted.name)) (order_at slots wanted one.serial)

abbrev pub placed_cmp : List (ℕ × Content) → Placed → Placed → Ordering
placed_cmp slots one other = ordering_then (nat_cmp one.front other.front) (serial_cmp slots one.serial other.serial)
