-- The packages of a store and their rows, as the answers of apt-cache(8) go through them.
use Rattle.std.specs.Prelude.{ℕ, Bool, true, false, List, [], ◌∷◌, map, filter, flat_map, Option, None, Some, is_some, unwrap_or}
use Rattle.std.specs.List.{list_any}
use Rattle.std.specs.Option.{option_map_or}
use Rattle.std.specs.Str.{bytes_eq}
use Rattle.ctl_stanza.specs.Content.{Content, version_of}
use Rattle.ctl_store.specs.declared.stanza_key.StanzaKey.{StanzaKey}
use Rattle.ctl_store.specs.Keys.{stanza_lists, stanza_at}
use Rattle.ctl_store.specs.Entries.{stanzas_in_order}
use Rattle.ctl_index.specs.Names.{known_names}
use Rattle.ctl_policy.specs.Rows.{lead_of, rows_named, newest_first, keys_of_row, has_row as has_row_in}
use Rattle.ctl_policy.specs.Priority.{World}
use Rattle.ctl_policy.specs.Candidate.{installed_of}

abbrev pub is_none_of : {A : Type 0} → List A → Bool
is_none_of [] = true
is_none_of (x ∷ xs) = false

-- ---- names

-- the stanzas of all lists, in order
abbrev pub stanzas_of : World → List Content
stanzas_of world = stanzas_in_order (stanza_lists world.lists)

-- the known names, in the order of their bytes
abbrev pub names_known : World → List (List ℕ)
names_known world = known_names (stanzas_of world)

unfoldable pub is_known : World → List ℕ → Bool
is_known world name = list_any (bytes_eq name) (names_known world)

-- ---- rows

-- the rows of a name, newest first, each by the keys of its stanzas
unfoldable pub rows_of : World → List ℕ → List (List StanzaKey)
rows_of world name = map keys_of_row (newest_first (rows_named name world.lists))

abbrev pub has_row : World → List ℕ → Bool
has_row world name = has_row_in name world.lists

-- the names that have a row, in the order of their bytes
unfoldable pub packages_of : World → List (List ℕ)
packages_of world = filter (has_row world) (names_known world)

-- whether a row of a name is installed
abbrev pub is_installed : World → List ℕ → Bool
is_installed world name = is_some (installed_of name world)

-- ---- what is told of a row

-- the stanza of a key, if there is one
abbrev pub stanza_under : World → Option StanzaKey → Option Content
stanza_under world None = None
stanza_under world (Some key) = stanza_at key world.lists

-- the lead of a row
abbrev pub lead_in : World → List StanzaKey → Option Content
lead_in world row = stanza_under world (lead_of row)

-- what is told of a stanza; nothing where there is none
abbrev pub told : {A : Type 0} → (Content → List A) → Option Content → List A
told text stanza = option_map_or text stanza []

-- The same of a row: all that is told of it comes from its lead.
abbrev pub told_of_row : {A : Type 0} → World → (Content → List A) → List StanzaKey → List A
told_of_row world text row = told text (lead_in world row)

-- of each row of a name, newest first
abbrev pub of_rows : {A : Type 0} → World → (Content → List A) → List ℕ → List A
of_rows world text name = flat_map (told_of_row world text) (rows_of world name)

-- of each row of each package
abbrev pub of_all_rows : World → (Content → List ℕ) → List ℕ
of_all_rows world text = flat_map (of_rows world text) (packages_of world)

-- the text of the version of a lead; it is live, so it has one
abbrev pub version_text : Content → List ℕ
version_text lead = unwrap_or (version_of lead) []
