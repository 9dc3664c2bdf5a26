-- Rows of names that follow the stanzas as they come and go, by their keys.
use Rattle.std.specs.Prelude.{◌≡◌, ℕ, Bool, false, List, Option, None, Some, if◌then◌else◌}
use Rattle.std.specs.Str.{bytes_eq}
use Rattle.std.specs.Ordering.{is_eq}
use Rattle.std.specs.Option.{option_map_or}
use Rattle.std.specs.FinMap as fin
use Rattle.ctl_relation.specs.Version.{version_cmp}
use Rattle.ctl_stanza.specs.Content.{Content}
use Rattle.ctl_store.specs.declared.stanza_key.StanzaKey.{StanzaKey}
use Rattle.ctl_store.specs.Keys.{key_is, stanza_at, AreRising}
use Rattle.ctl_policy.specs.Keys.{with_key, without_key, has_key, some_keys}
use Rattle.ctl_policy.specs.Rows.{Lists, Rows, keys_at, is_in_row}

-- ---- the rows of one name, as a key comes or goes

-- the row of a version, where this one stands under another, and others keep theirs
abbrev pub row_set : List ℕ → Option (List StanzaKey) → Rows → List ℕ → Option (List StanzaKey)
row_set version row rows v = if is_eq (version_cmp version v) then row else fin.get rows v

-- a key comes under a version, and other versions keep theirs
abbrev pub HasPut : List ℕ → StanzaKey → Rows → Rows → Type 0
HasPut version key old new = (v : List ℕ) → fin.get new v ≡ row_set version (Some (with_key key (keys_at old version))) old v

-- A key goes from under a version, and other versions keep theirs. A row without keys goes.
abbrev pub HasTaken : List ℕ → StanzaKey → Rows → Rows → Type 0
HasTaken version key old new = (v : List ℕ) → fin.get new v ≡ row_set version (some_keys (without_key key (keys_at old version))) old v

-- every version keeps its row
abbrev pub HasSame : Rows → Rows → Type 0
HasSame old new = (v : List ℕ) → fin.get new v ≡ fin.get old v

-- ---- the rows of all names

-- the rows of each name
abbrev pub RowsByName : Type 0
RowsByName = List ℕ → Rows

-- other names keep their rows
abbrev pub OthersStay : List ℕ → RowsByName → RowsByName → Type 0
OthersStay name old new = (q : List ℕ) → bytes_eq name q ≡ false → HasSame (old q) (new q)

-- stanzas by their keys
abbrev pub Stanzas : Type 0
Stanzas = StanzaKey → Option Content

abbrev pub stanzas_in : Lists → Stanzas
stanzas_in lists key = stanza_at key lists

-- one stanza more under a key, or another one
abbrev pub with_stanza : StanzaKey → Content → Stanzas → Stanzas
with_stanza key x f k = if key_is key k then Some x else f k

abbrev pub without_stanza : StanzaKey → Stanzas → Stanzas
without_stanza key f k = if key_is key k then None else f k

-- whether what is found is in the row of a version of a name
abbrev pub is_found_in : List ℕ → List ℕ → Option Content → Bool
is_found_in name version found = option_map_or (is_in_row name version) found false

-- In the row of each name and version stand the keys of the stanzas that are in it, in order. No row is empty.
pub record IsKept (rows : RowsByName) (stanzas : Stanzas) : Type 0 where
  pub rises : (name : List ℕ) → (version : List ℕ) → AreRising (keys_at (rows name) version)
  pub held : (name version : List ℕ) → (k : StanzaKey) → has_key k (keys_at (rows name) version) ≡ is_found_in name version (stanzas k)
  pub some : (name : List ℕ) → (version : List ℕ) → fin.get (rows name) version ≡ some_keys (keys_at (rows name) version)
