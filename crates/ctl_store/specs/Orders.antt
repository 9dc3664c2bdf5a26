-- Where a name and a version stand in the order of slots.
use Rattle.std.specs.Prelude.{◌≡◌, ℕ, ◌-◌, ◌<◌, true, Box, List, map, Option}
use Rattle.std.specs.List.{slice_index_or}
use Rattle.ctl_store.specs.declared.fronts.Placed.{Placed}
use Rattle.std.specs.Ordering.{is_lt}
use Rattle.ctl_stanza.specs.Content.{Content}
use Rattle.ctl_store.specs.Places.{place}
use Rattle.ctl_store.specs.Slots.{Id, by_name_and_version, ids_of, lower, placed_at, slots_from, sorted_ids}

-- where it stands, or would
abbrev pub lower_place : Id → List (ℕ × Content) → ℕ
lower_place wanted slots = lower wanted (sorted_ids (ids_of slots))

-- the place of the first slot of a name and an equal version
abbrev pub slot_place : List ℕ → Option (List ℕ) → List (ℕ × Content) → Option ℕ
slot_place name version slots = place (by_name_and_version name version) slots

-- the slot before a place of the order, if there is one, comes before what is sought
abbrev pub ComesAfter : List (ℕ × Content) → List Placed → ℕ → Id → Type 0
ComesAfter slots order at wanted = (d : Placed) → 0 < at → is_lt (placed_at slots wanted (slice_index_or order (at - 1) d)) ≡ true

-- ---- stanzas in boxes

-- as slots under the serials from 0 on
abbrev pub boxed_slots : {A : Type 0} → List (Box Content A) → List (ℕ × Content)
boxed_slots stanzas = slots_from 0 (map (λ stanza. stanza.value) stanzas)
