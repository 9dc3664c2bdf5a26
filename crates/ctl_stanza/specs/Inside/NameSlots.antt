-- Slots of the names of fields, by which most names that were not given are told at once. Not for callers.
use Rattle.std.specs.Prelude.{◌≡◌, ℕ, Bool, true, ◌||◌, ◌+◌, ◌*◌, ◌%◌, ◌^◌, ◌==◌, List, [], ◌∷◌, length, map, bit_or}
use Rattle.std.specs.Int.{bit_at}
use Rattle.std.specs.List.{list_any}
use Rattle.std.specs.Str.{bytes_eq, str_to_ascii_lowercase}
use Rattle.ctl_stanza.specs.Fields.{is_same_name}
use Rattle.ctl_stanza.specs.Faults.{names_of, has_name}
use Rattle.ctl_stanza.specs.Given.{Given}
use Rattle.ctl_stanza.specs.declared.names_given.NamesGiven.TheInside.{Inside}

-- the slot of a name in small letters
abbrev pub slot_in : List ℕ → ℕ
slot_in [] = 0
slot_in (first ∷ others) = (length (first ∷ others) % 64 * 7 + first) % 64

-- the slot of a name, which names share that are the same without regard to ASCII case
abbrev pub slot_of : List ℕ → ℕ
slot_of name = slot_in (str_to_ascii_lowercase name)

-- whether a slot is taken, by the bits of those that are
abbrev pub has_slot : ℕ → ℕ → Bool
has_slot taken slot = bit_at taken slot == 1

-- one slot more is taken
abbrev pub with_slot : ℕ → ℕ → ℕ
with_slot taken slot = bit_or taken (2 ^ slot)

-- whether the slot of a name is taken
abbrev pub is_taken : ℕ → List ℕ → Bool
is_taken taken name = has_slot taken (slot_of name)

-- the slots of names are taken
abbrev pub AreTaken : ℕ → (List ℕ → Bool) → Type 0
AreTaken taken given = (name : List ℕ) → given name ≡ true → is_taken taken name ≡ true

-- the slots of the names that lines give are taken
abbrev pub AreTakenBy : List (List ℕ) → ℕ → Type 0
AreTakenBy lines taken = AreTaken taken (has_name (names_of lines))

abbrev pub given_names : Inside → Given
given_names names = record { first = map (λ name. name.now) names.first.items; others = map (λ name. name.items) names.others.keys }

-- whether a name was given, without regard to ASCII case
abbrev pub is_given : Inside → List ℕ → Bool
is_given names name =
    list_any (λ other. is_same_name name other.now) names.first.items
    || list_any (λ other. bytes_eq (str_to_ascii_lowercase name) other.items) names.others.keys

-- the slots of the names that were given are taken
abbrev pub HasTaken : Inside → Type 0
HasTaken names = AreTaken names.slots (is_given names)
