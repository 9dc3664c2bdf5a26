-- The lists of keys, one behind another.
use Rattle.std.specs.Prelude.{ℕ, List, [], ◌∷◌, Option, Some, None, if◌then◌else◌}
use Rattle.ctl_store.specs.declared.stanza_key.StanzaKey.{StanzaKey}
use Rattle.ctl_store.specs.Keys.{holder_of}
use Rattle.ctl_policy.specs.Rows.{Lists, is_called}

-- the list of a key, if it is there and not the last one, and then those behind it
abbrev pub holder_then : Option (List ℕ) → Option (List ℕ) → (Option (List ℕ) → List (List ℕ)) → List (List ℕ)
holder_then last None behind = behind None
holder_then last (Some list) behind = if is_called list last then behind last else list ∷ behind (Some list)

-- the lists that hold keys, without those that hold the key before as well; the last one holds what stands before them
abbrev pub holders_behind : Lists → Option (List ℕ) → List StanzaKey → List (List ℕ)
holders_behind lists last [] = []
holders_behind lists last (k ∷ ks) = holder_then last (holder_of k lists) (λ next. holders_behind lists next ks)
