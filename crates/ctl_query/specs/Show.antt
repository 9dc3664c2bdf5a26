-- The answer to `show`.
use Rattle.std.specs.Prelude.{ℕ, Bool, true, false, List, [], ◌∷◌, flat_map, codes, Option, Some, None, if◌then◌else◌}
use Rattle.std.specs.Option.{option_map_or}
use Rattle.ctl_stanza.specs.Content.{Content}
use Rattle.ctl_policy.specs.Rows.{rows_named, lead_at}
use Rattle.ctl_policy.specs.Priority.{World}
use Rattle.ctl_policy.specs.Candidate.{candidate_of}
use Rattle.ctl_query.specs.Packages.{has_row, stanza_under, told, of_rows}
use Rattle.ctl_filter.specs.Texts.{line}
use Rattle.ctl_query.specs.Texts.{unknown_line}

-- a word of `show`: a name, and a version if it has one
pub record AskedRow : Type 0 where
  pub name : List ℕ
  pub version : Option (List ℕ)

-- the lead's text, and an empty line
abbrev pub lead_text : Content → List ℕ
lead_text lead = line (lead.text ∷ [])

abbrev pub not_found_line : List ℕ → List ℕ → List ℕ
not_found_line name version = line (codes "N: Version " ∷ version ∷ codes " of " ∷ name ∷ codes " was not found" ∷ [])

-- the row of an equal version, or that there is none
abbrev pub version_shown : World → List ℕ → List ℕ → List ℕ
version_shown world name version =
    option_map_or lead_text (stanza_under world (lead_at (rows_named name world.lists) version)) (not_found_line name version)

-- The row of an equal version alone; or each row, newest first; or the candidate's row alone, if there is one.
abbrev pub rows_shown : World → Bool → List ℕ → Option (List ℕ) → List ℕ
rows_shown world all name (Some version) = version_shown world name version
rows_shown world true name None = of_rows world lead_text name
rows_shown world false name None = told lead_text (stanza_under world (candidate_of name world))

-- Here a name without a row counts as unknown.
abbrev pub show_one : World → Bool → AskedRow → List ℕ
show_one world all asked =
    if has_row world asked.name then rows_shown world all asked.name asked.version else unknown_line asked.name

abbrev pub show_text : World → Bool → List AskedRow → List ℕ
show_text world all asked = flat_map (show_one world all) asked
