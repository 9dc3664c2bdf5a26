-- The fields of a stanza under their names in small letters.
use Rattle.std.specs.Prelude.{◌≡◌, ℕ, List, Option, Vec}
use Rattle.std.specs.Borrow.{Bor}
use Rattle.std.specs.BTreeMap.{BTreeMap, get_by}
use Rattle.std.specs.Cmp.Lexicographic.{slice_cmp}
use Rattle.std.specs.Global.{Global}
use Rattle.std.specs.Option.{option_map}
use Rattle.std.specs.Ordering.{nat_cmp}
use Rattle.std.specs.Str.{str_to_ascii_lowercase}
use Rattle.ctl_filter.specs.Grep.{entry_among}
use Rattle.ctl_filter.specs.Inside.Values.{lent_entry}

abbrev pub Table : Type 0
Table = BTreeMap (Vec ℕ Global) (Bor (List ℕ) × Bor (List ℕ))

-- the field that stands under these bytes
abbrev pub held_under : List ℕ → Table → Option (Bor (List ℕ) × Bor (List ℕ))
held_under bytes table = get_by (λ k. slice_cmp nat_cmp bytes k.items) table

-- the field of a name
abbrev pub entry_under : List ℕ → Table → Option (List ℕ × List ℕ)
entry_under name table = option_map lent_entry (held_under (str_to_ascii_lowercase name) table)

-- of each name the first of these fields stands there
abbrev pub IsTableOf : Table → List (List ℕ × List ℕ) → Type 0
IsTableOf table entries = (name : List ℕ) → entry_under name table ≡ entry_among name entries
