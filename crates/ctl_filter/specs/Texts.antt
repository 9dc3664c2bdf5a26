-- Lines, by their parts.
use Rattle.std.specs.Prelude.{ℕ, List, [], ◌∷◌, ◌++◌, flat_map}
use Rattle.ctl_relation.specs.Bytes.{newline}

-- parts, one after another
abbrev pub joined : List (List ℕ) → List ℕ
joined parts = flat_map (λ part. part) parts

-- a line: its parts and a newline
unfoldable pub line : List (List ℕ) → List ℕ
line parts = joined parts ++ newline ∷ []
