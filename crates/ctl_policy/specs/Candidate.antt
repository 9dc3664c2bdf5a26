-- The installed row and the candidate of a name (apt_preferences(5), "How APT Interprets Priorities").
use Rattle.std.specs.Prelude.{ℕ, ℤ, pos, Bool, true, ◌&&◌, ◌||◌, int_lt, int_le, List, [], ◌∷◌, if◌then◌else◌}
use Rattle.std.specs.Prelude.{Option, None, Some, is_some, option_map, unwrap_or}
use Rattle.std.specs.Option.{option_map_or}
use Rattle.std.specs.Ordering.{is_ge}
use Rattle.std.specs.FinMap as fin
use Rattle.ctl_relation.specs.Version.{Triple, triple_of, triple_cmp}
use Rattle.ctl_store.specs.declared.stanza_key.StanzaKey.{StanzaKey}
use Rattle.ctl_store.specs.Step.{is_status}
use Rattle.ctl_stanza.specs.Content.{Content}
use Rattle.ctl_store.specs.Entries.{entries_of}
use Rattle.ctl_policy.specs.Rows.{Lists, Rows, Row, version_in, keys_with, version_under, rows_named, newest_first, lead_of, lead_at}
use Rattle.ctl_policy.specs.Priority.{World, row_priority}

-- ---- what is installed

-- whether a stanza is a live one of a name in the status list
abbrev pub is_status_of : List ℕ → Content → Bool
is_status_of name x = is_status x.kind && is_some (version_in name x)

-- the version of the first live stanza of a name in the status list
abbrev pub status_version : List ℕ → Lists → Option (List ℕ)
status_version name lists = version_under lists (lead_of (keys_with (is_status_of name) (entries_of lists)))

-- The mark of a name decides, also one of none. Without a mark the status list does.
abbrev pub wanted_version : List ℕ → World → Option (List ℕ)
wanted_version name w = unwrap_or (fin.get w.marks name) (status_version name w.lists)

-- The row of that version is installed, shown by its lead. Without such a row nothing is: a mark doesn't give way to the status list.
abbrev pub installed_of : List ℕ → World → Option StanzaKey
installed_of name w = option_map_or (lead_at (rows_named name w.lists)) (wanted_version name w) None

-- a version, where there is a row of it
abbrev pub version_if_row : Rows → Option (List ℕ) → Option Triple
version_if_row rows None = None
version_if_row rows (Some version) = option_map (λ (keys : List StanzaKey). triple_of version) (fin.get rows version)

-- ---- the candidate

-- A row of a priority of 1000 or more may be taken though it is older than the installed one.
abbrev pub is_upgrade : ℤ → Triple → Option Triple → Bool
is_upgrade priority version None = true
is_upgrade priority version (Some installed) = int_le (pos 1000) priority || is_ge (triple_cmp version installed)

-- whether a row may be taken: one of a priority of 0 or less is not
abbrev pub may_be_taken : ℤ → Triple → Option Triple → Bool
may_be_taken priority version installed = int_lt (pos 0) priority && is_upgrade priority version installed

-- a row that may be taken, by its priority and its lead
abbrev pub Choice : Type 0
Choice = Option (ℤ × Option StanzaKey)

-- the newer of two, unless the priority of the older one is greater
abbrev pub better : ℤ × Option StanzaKey → Choice → Choice
better newer None = Some newer
better newer (Some older) = if int_lt newer.0 older.0 then Some older else Some newer

-- of rows, newest first, the one of the greatest priority among those that may be taken, and the newest of equals
abbrev pub best_of : (List StanzaKey → ℤ) → Option Triple → List Row → Choice
best_of priority installed [] = None
best_of priority installed (row ∷ rows) =
    if may_be_taken (priority row.1) row.0 installed
    then better (priority row.1, lead_of row.1) (best_of priority installed rows)
    else best_of priority installed rows

-- the same, where the rows have their priorities as rows of a name
abbrev pub best_named : List ℕ → World → Option Triple → List Row → Choice
best_named name w installed rows = best_of (row_priority name w) installed rows

-- the version that is installed, where there is a row of it
abbrev pub installed_version : List ℕ → World → Option Triple
installed_version name w = version_if_row (rows_named name w.lists) (wanted_version name w)

abbrev pub choice_of : List ℕ → World → Choice
choice_of name w = best_named name w (installed_version name w) (newest_first (rows_named name w.lists))

-- the lead of a choice
abbrev pub lead_of_choice : Choice → Option StanzaKey
lead_of_choice choice = option_map_or (λ (c : ℤ × Option StanzaKey). c.1) choice None

-- the lead of the candidate
abbrev pub candidate_of : List ℕ → World → Option StanzaKey
candidate_of name w = lead_of_choice (choice_of name w)
