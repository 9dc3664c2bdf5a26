-- Lists of values by name, in an order.
use Rattle.std.specs.Prelude.{ℕ, Bool, List, [], ◌∷◌, Option, is_some, if◌then◌else◌}
use Rattle.std.specs.Str.{bytes_eq}
use Rattle.std.specs.Map.{lookup, remove_entry, set_value}
use Rattle.indexmap.specs.IndexMap.{insert_entry}

module _ {V : Type 0} where
  -- the value of the name
  abbrev pub at_name : List ℕ → List (List ℕ × V) → Option V
  at_name name es = lookup (bytes_eq name) es

  -- whether there is an entry of the name
  abbrev pub has_name : List ℕ → List (List ℕ × V) → Bool
  has_name name es = is_some (at_name name es)

  -- a name that is there keeps its place and takes the value, and a new one goes last
  abbrev pub put_named : List ℕ → V → List (List ℕ × V) → List (List ℕ × V)
  put_named name v es = insert_entry bytes_eq es name v

  -- the entry of the name takes the value
  abbrev pub set_named : List ℕ → V → List (List ℕ × V) → List (List ℕ × V)
  set_named name v es = set_value (bytes_eq name) es v

  -- the entries without that of the name
  abbrev pub without_name : List ℕ → List (List ℕ × V) → List (List ℕ × V)
  without_name name es = remove_entry (bytes_eq name) es

  -- the entry of the name is changed
  abbrev pub change_named : List ℕ → (V → V) → List (List ℕ × V) → List (List ℕ × V)
  change_named name f [] = []
  change_named name f (e ∷ es) = if bytes_eq name e.0 then (e.0, f e.1) ∷ es else e ∷ change_named name f es
