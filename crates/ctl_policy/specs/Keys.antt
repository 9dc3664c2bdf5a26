-- Keys in their order.
use Rattle.std.specs.Prelude.{ℕ, suc, Bool, false, slice_get, List, [], ◌∷◌, Option, None, Some, unwrap_or, if◌then◌else◌}
use Rattle.std.specs.List.{list_any}
use Rattle.std.specs.Option.{option_map_or}
use Rattle.std.specs.Ordering.{is_lt}
use Rattle.ctl_store.specs.declared.stanza_key.StanzaKey.{StanzaKey}
use Rattle.ctl_store.specs.Keys.{key_cmp, key_is}

-- with a key in its place, where it may stand already
abbrev pub with_key : StanzaKey → List StanzaKey → List StanzaKey
with_key k [] = k ∷ []
with_key k (x ∷ xs) = if is_lt (key_cmp x k) then x ∷ with_key k xs else if key_is k x then x ∷ xs else k ∷ x ∷ xs

abbrev pub without_key : StanzaKey → List StanzaKey → List StanzaKey
without_key k [] = []
without_key k (x ∷ xs) = if key_is k x then xs else x ∷ without_key k xs

-- whether a key is one of some
abbrev pub has_key : StanzaKey → List StanzaKey → Bool
has_key k keys = list_any (key_is k) keys

-- no keys make no row
abbrev pub some_keys : List StanzaKey → Option (List StanzaKey)
some_keys [] = None
some_keys (k ∷ ks) = Some (k ∷ ks)

-- the keys of a row, if there is one
abbrev pub or_none : Option (List StanzaKey) → List StanzaKey
or_none row = unwrap_or row []

-- ---- places, for the search by halves

-- how many keys stand before the first that isn't below one
abbrev pub below : StanzaKey → List StanzaKey → ℕ
below k [] = 0
below k (x ∷ xs) = if is_lt (key_cmp x k) then suc (below k xs) else 0

-- whether a key stands at a place
abbrev pub stands_at : StanzaKey → ℕ → List StanzaKey → Bool
stands_at k i xs = option_map_or (key_is k) (slice_get xs i) false
