-- The rows of a name: its versions as `apt-cache policy` lists them (apt-cache(8)), their leads and their sources.
use Rattle.std.specs.Prelude.{◌≡◌, ℕ, nat_eq, Bool, true, false, ◌||◌, List, [], ◌∷◌, map, filter, reverse, Option, None, Some, if◌then◌else◌}
use Rattle.std.specs.Prelude.{IsSome, slice_get}
use Rattle.std.specs.List.{list_any}
use Rattle.std.specs.Map.{keys_of as names_of}
use Rattle.std.specs.Option.{option_map_or}
use Rattle.std.specs.Ordering.{is_eq}
use Rattle.std.specs.Str.{bytes_eq}
use Rattle.std.specs.FinMap as fin
use Rattle.ctl_relation.specs.Version.{Triple, triple_of, version_cmp}
use Rattle.ctl_stanza.specs.Content.{Content, package_of, version_of}
use Rattle.ctl_store.specs.declared.stanza_key.StanzaKey.{StanzaKey}
use Rattle.ctl_store.specs.Keys.{KeyedList, stanza_at, holder_of}
use Rattle.ctl_store.specs.Entries.{Entry, entries_of}
use Rattle.ctl_policy.specs.Keys.{or_none, with_key}

-- the lists by their names
abbrev pub Lists : Type 0
Lists = List (List ℕ × KeyedList)

-- ---- the live stanzas of a name

-- the version of a live stanza of this name; a stanza that isn't live has none
abbrev pub version_in : List ℕ → Content → Option (List ℕ)
version_in name x = if bytes_eq (package_of x) name then version_of x else None

-- the live stanzas of a name by their keys and versions
abbrev pub versions_of : List ℕ → List Entry → List (StanzaKey × List ℕ)
versions_of name [] = []
versions_of name (s ∷ ss) = option_map_or (λ (v : List ℕ). (s.0, v) ∷ versions_of name ss) (version_in name s.1) (versions_of name ss)

-- whether a version that was found is there, and equal to another
abbrev pub is_of_version : List ℕ → Option (List ℕ) → Bool
is_of_version version found = option_map_or (λ (w : List ℕ). is_eq (version_cmp w version)) found false

-- whether a stanza is a live one of this name, of an equal version
abbrev pub is_in_row : List ℕ → List ℕ → Content → Bool
is_in_row name version x = is_of_version version (version_in name x)

-- the keys of the stanzas that pass, in order
abbrev pub keys_with : (Content → Bool) → List Entry → List StanzaKey
keys_with p [] = []
keys_with p (s ∷ ss) = if p s.1 then s.0 ∷ keys_with p ss else keys_with p ss

-- ---- rows

-- For each version, of any text, the keys of the stanzas that have an equal one.
abbrev pub Rows : Type 0
Rows = fin.FinMap version_cmp (List StanzaKey)

-- the keys of a version; none where there is no row of it
abbrev pub keys_at : Rows → List ℕ → List StanzaKey
keys_at rows version = or_none (fin.get rows version)

-- the row of a version, once the key of a stanza came that is a live one of a name
abbrev pub row_with : List ℕ → StanzaKey → Content → Rows → List ℕ → Option (List StanzaKey)
row_with name key x rows v = if is_in_row name v x then Some (with_key key (keys_at rows v)) else fin.get rows v

-- the rows of stanzas: the keys of each stand in the order of the stanzas
abbrev pub rows_of : List (StanzaKey × List ℕ) → Rows
rows_of [] = fin.empty
rows_of (s ∷ ss) = fin.insert (rows_of ss) s.1 (s.0 ∷ keys_at (rows_of ss) s.1)

-- The rows of a name are the classes of equal versions among its live stanzas.
abbrev pub rows_named : List ℕ → Lists → Rows
rows_named name lists = rows_of (versions_of name (entries_of lists))

-- these are the rows of a name, whichever text stands for equal versions
abbrev pub AreRowsOf : Rows → List ℕ → Lists → Type 0
AreRowsOf rows name lists = (version : List ℕ) → fin.get rows version ≡ fin.get (rows_named name lists) version

-- a row by what the order of versions sees of its version, and the keys of its stanzas
abbrev pub Row : Type 0
Row = Triple × List StanzaKey

abbrev pub keys_of_row : Row → List StanzaKey
keys_of_row row = row.1

-- the rows, newest first
abbrev pub newest_first : Rows → List Row
newest_first rows = reverse (map (λ (row : List ℕ × List StanzaKey). (triple_of row.0, row.1)) (fin.entries rows))

-- whether there is a row among these
abbrev pub is_any_row : List Row → Bool
is_any_row [] = false
is_any_row (row ∷ rows) = true

-- whether a name has a row
abbrev pub has_row : List ℕ → Lists → Bool
has_row name lists = is_any_row (newest_first (rows_named name lists))

-- whether a key is that of a stanza of the list with this serial
abbrev pub is_of_list : ℕ → StanzaKey → Bool
is_of_list list key = nat_eq key.list list

-- whether one of the rows has such a key
abbrev pub has_list : ℕ → Rows → Bool
has_list list rows = list_any (λ keys. list_any (is_of_list list) keys) (map keys_of_row (newest_first rows))

-- ---- leads and sources

-- The lead of a row is its first stanza in the order of all.
abbrev pub lead_of : List StanzaKey → Option StanzaKey
lead_of keys = slice_get keys 0

abbrev pub HasLead : List StanzaKey → Type 0
HasLead keys = IsSome (lead_of keys)

-- the lead of the row of a version, if there is one
abbrev pub lead_at : Rows → List ℕ → Option StanzaKey
lead_at rows version = lead_of (keys_at rows version)

-- The text of a row's version is that of its lead.
abbrev pub version_under : Lists → Option StanzaKey → Option (List ℕ)
version_under lists None = None
version_under lists (Some key) = option_map_or version_of (stanza_at key lists) None

-- whether a list that was found has this name
abbrev pub is_called : List ℕ → Option (List ℕ) → Bool
is_called list None = false
is_called list (Some name) = bytes_eq name list

-- whether the list of a name holds one of the stanzas
abbrev pub is_source : List ℕ → Lists → List StanzaKey → Bool
is_source list lists [] = false
is_source list lists (k ∷ keys) = is_called list (holder_of k lists) || is_source list lists keys

-- The sources of a row are the lists that hold one of its stanzas, in list order.
abbrev pub sources_of : List StanzaKey → Lists → List (List ℕ)
sources_of keys lists = filter (λ (list : List ℕ). is_source list lists keys) (names_of lists)
