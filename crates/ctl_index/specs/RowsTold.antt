-- What is told of one row.
use Rattle.std.specs.Prelude.{ℕ, ℤ, List, [], ◌∷◌, Option, None, Some, if◌then◌else◌}
use Rattle.std.specs.Option.{option_map_or}
use Rattle.ctl_stanza.specs.Content.{Content, package_of, version_of}
use Rattle.ctl_stanza.specs.declared.list_kind.ListKind.{ListKind}
use Rattle.ctl_store.specs.declared.list_class.ListClass.{ListClass}
use Rattle.ctl_store.specs.declared.stanza_key.StanzaKey.{StanzaKey}
use Rattle.ctl_store.specs.Keys.{stanza_at}
use Rattle.ctl_policy.specs.Rows.{Lists, rows_named, keys_at, is_source}
use Rattle.ctl_policy.specs.Priority.{World, row_priority}

-- the stanzas of the row of a version of a name; none where there is no such row
abbrev pub row_at : List ℕ → List ℕ → Lists → List StanzaKey
row_at name version lists = keys_at (rows_named name lists) version

-- the priority of a row, if there is one
abbrev pub priority_if_any : List ℕ → World → List StanzaKey → Option ℤ
priority_if_any name w [] = None
priority_if_any name w (k ∷ keys) = Some (row_priority name w (k ∷ keys))

abbrev pub priority_at : List ℕ → List ℕ → World → Option ℤ
priority_at name version w = priority_if_any name w (row_at name version w.lists)

-- the stanzas of the row in which a stanza stands; none where it isn't live
abbrev pub row_of_stanza : Lists → Content → List StanzaKey
row_of_stanza lists x = option_map_or (λ (version : List ℕ). row_at (package_of x) version lists) (version_of x) []

abbrev pub row_under : StanzaKey → Lists → List StanzaKey
row_under key lists = option_map_or (row_of_stanza lists) (stanza_at key lists) []

-- which of the lists that a store shows hold a stanza of a row
abbrev pub sources_among : List StanzaKey → Lists → List (List ℕ × ListKind × ListClass) → List (List ℕ)
sources_among keys lists [] = []
sources_among keys lists (l ∷ shown) =
    if is_source l.0 lists keys
    then l.0 ∷ sources_among keys lists shown
    else sources_among keys lists shown
