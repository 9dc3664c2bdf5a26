-- The answers to `policy`.
use Rattle.std.specs.Prelude.{ℕ, ℤ, pos, Bool, false, List, [], ◌∷◌, ◌++◌, flat_map, codes, Option, None, Some, unwrap_or, if◌then◌else◌}
use Rattle.std.specs.Fmt.{signed_decimal}
use Rattle.std.specs.Map.{keys_of as names_of}
use Rattle.std.specs.Option.{option_map_or}
use Rattle.std.specs.Ordering.{is_eq}
use Rattle.ctl_relation.specs.Version.{version_cmp}
use Rattle.ctl_store.specs.declared.stanza_key.StanzaKey.{StanzaKey}
use Rattle.ctl_policy.specs.Rows.{lead_of, version_under, sources_of}
use Rattle.ctl_policy.specs.Priority.{World, list_priority, row_priority, specific_pin}
use Rattle.ctl_policy.specs.Candidate.{installed_of, candidate_of}
use Rattle.ctl_query.specs.Packages.{rows_of, packages_of}
use Rattle.ctl_filter.specs.Texts.{line}
use Rattle.ctl_query.specs.Texts.{if_known, right_four}

-- the priority of a list; each that is asked for is there
abbrev pub priority_of : World → List ℕ → ℤ
priority_of world list = unwrap_or (list_priority list world) (pos 0)

-- the version of a row, by its lead
abbrev pub row_version : World → List StanzaKey → List ℕ
row_version world row = unwrap_or (version_under world.lists (lead_of row)) []

-- ---- `policy NAME`

-- the version of a lead, if there is one
abbrev pub version_or_none : World → Option StanzaKey → List ℕ
version_or_none world lead = unwrap_or (version_under world.lists lead) (codes "(none)")

-- whether two versions, if they are there, are equal
abbrev pub are_equal : Option (List ℕ) → Option (List ℕ) → Bool
are_equal None other = false
are_equal (Some version) None = false
are_equal (Some version) (Some other) = is_eq (version_cmp version other)

-- Whether two leads of one name, if they are there, are of one row: their versions are equal.
abbrev pub are_of_one_row : World → Option StanzaKey → Option StanzaKey → Bool
are_of_one_row world lead other = are_equal (version_under world.lists lead) (version_under world.lists other)

-- a star for the installed row
abbrev pub row_mark : Bool → List ℕ
row_mark installed = if installed then codes " *** " else codes "     "

abbrev pub row_line : World → Option StanzaKey → List ℕ → List StanzaKey → List ℕ
row_line world installed name row =
    line (row_mark (are_of_one_row world installed (lead_of row)) ∷ row_version world row ∷ codes " "
    ∷ signed_decimal (row_priority name world row) ∷ [])

abbrev pub source_line : World → List ℕ → List ℕ
source_line world list = line (codes "       " ∷ right_four (priority_of world list) ∷ codes " " ∷ list ∷ [])

-- a row, and under it its sources
unfoldable pub row_lines : World → Option StanzaKey → List ℕ → List StanzaKey → List ℕ
row_lines world installed name row = row_line world installed name row ++ flat_map (source_line world) (sources_of row world.lists)

unfoldable pub policy_one : World → List ℕ → List ℕ
policy_one world name =
    line (name ∷ codes ":" ∷ [])
    ++ (line (codes "  Installed: " ∷ version_or_none world (installed_of name world) ∷ [])
    ++ (line (codes "  Candidate: " ∷ version_or_none world (candidate_of name world) ∷ [])
    ++ (line (codes "  Version table:" ∷ [])
    ++ flat_map (row_lines world (installed_of name world) name) (rows_of world name))))

abbrev pub policy_text : World → List (List ℕ) → List ℕ
policy_text world names = flat_map (if_known world (policy_one world)) names

-- ---- `policy` without a name

abbrev pub list_line : World → List ℕ → List ℕ
list_line world list = line (right_four (priority_of world list) ∷ codes " " ∷ list ∷ [])

-- a version of a name, and the priority that a specific pin gives it
abbrev pub pinned_line : List ℕ → List ℕ → ℤ → List ℕ
pinned_line name version priority =
    line (codes "     " ∷ name ∷ codes " -> " ∷ version ∷ codes " with priority " ∷ signed_decimal priority ∷ [])

-- a row whose priority comes from a specific pin
abbrev pub line_if_pinned : World → List ℕ → List StanzaKey → List ℕ
line_if_pinned world name row = option_map_or (pinned_line name (row_version world row)) (specific_pin name world.lists row world.pins) []

-- those of a name
unfoldable pub pinned_lines : World → List ℕ → List ℕ
pinned_lines world name = flat_map (line_if_pinned world name) (rows_of world name)

unfoldable pub policy_of_all : World → List ℕ
policy_of_all world =
    line (codes "Package files:" ∷ [])
    ++ (flat_map (list_line world) (names_of world.lists)
    ++ (line (codes "Pinned packages:" ∷ [])
    ++ flat_map (pinned_lines world) (packages_of world)))
