-- Whether relations name a package.
use Rattle.std.specs.Prelude.{ℕ, Bool, List}
use Rattle.std.specs.List.{list_any}
use Rattle.std.specs.Str.{bytes_eq}
use Rattle.ctl_relation.specs.Parts.{AtomParts}

-- whether an atom has the name
abbrev pub atom_names : List ℕ → AtomParts → Bool
atom_names name atom = bytes_eq atom.name name

-- whether an atom of a group has
abbrev pub group_names : List ℕ → List AtomParts → Bool
group_names name group = list_any (atom_names name) group

-- whether one of a group of these has
abbrev pub groups_name : List ℕ → List (List AtomParts) → Bool
groups_name name groups = list_any (group_names name) groups
