-- How a byte string is held: a short one in places of its own, of which the first ones are taken.
use Rattle.std.specs.Prelude.{ℕ, ◌≤◌, ⊤, List, take}
use Rattle.ctl_relation.specs.declared.small_bytes.Held.{Held}
use Rattle.ctl_relation.specs.declared.small_bytes.Held.TheVariants.{Short, Long}

abbrev pub bytes_of : Held → List ℕ
bytes_of (Short len places) = take len places
bytes_of (Long vec) = vec.items

abbrev pub short_len : ℕ
short_len = 30

-- no more places are taken than there are
abbrev pub IsHeld : Held → Type 0
IsHeld (Short len places) = len ≤ short_len
IsHeld (Long vec) = ⊤
