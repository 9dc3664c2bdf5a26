-- Parts of a text.
use Rattle.std.specs.Prelude.{◌≡◌, ◌≤◌, ℕ, List, length}
use Rattle.std.specs.List.{slice_range}

-- between two places of a text stands this part
abbrev pub StandsAt : List ℕ → ℕ → ℕ → List ℕ → Type 0
StandsAt text start end part = (start ≤ end) × (end ≤ length text) × (slice_range text start end ≡ part)
