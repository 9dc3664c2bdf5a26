-- The keys of the leads of all rows.
use Rattle.std.specs.Prelude.{ℕ, List, [], ◌∷◌, map, flat_map}
use Rattle.ctl_store.specs.declared.stanza_key.StanzaKey.{StanzaKey}
use Rattle.ctl_store.specs.Store.{Held, keyed_of, state_of}
use Rattle.ctl_policy.specs.Rows.{rows_named, newest_first, keys_of_row}
use Rattle.ctl_index.specs.Names.{known_names}
use Rattle.ctl_index.specs.Work.{stanzas_of_state}

-- the key of the lead of a row, which has these stanzas
abbrev pub lead_key : List StanzaKey → List StanzaKey
lead_key [] = []
lead_key (key ∷ keys) = key ∷ []

-- name by name, and of each the newest first
abbrev pub lead_keys : Held → List StanzaKey
lead_keys h =
    flat_map (flat_map lead_key)
    (map (λ (name : List ℕ). map keys_of_row (newest_first (rows_named name (keyed_of h).lists))) (known_names (stanzas_of_state (state_of h))))
