-- The lines of lists as sources of rows, made before the rows are gone through.
use Rattle.std.specs.Prelude.{ℕ, List, [], map, if◌then◌else◌}
use Rattle.std.specs.Borrow.{Bor}
use Rattle.std.specs.Map.{keys_of as names_of}
use Rattle.ctl_store.specs.declared.stanza_key.StanzaKey.{StanzaKey}
use Rattle.ctl_policy.specs.Priority.{World}
use Rattle.ctl_policy.specs.Rows.{is_source}
use Rattle.ctl_query.specs.Policy.{source_line}

-- lines that are kept beside the names of their lists
abbrev pub lent_lines : List (Bor (List ℕ) × List ℕ) → List (List ℕ × List ℕ)
lent_lines lines = map (λ (l : Bor (List ℕ) × List ℕ). (l.0.now, l.1)) lines

abbrev pub with_line : World → List ℕ → List ℕ × List ℕ
with_line world list = (list, source_line world list)

-- those of all lists, in order
abbrev pub lines_of_lists : World → List (List ℕ × List ℕ)
lines_of_lists world = map (with_line world) (names_of world.lists)

-- the line of a list, where it is a source of a row
abbrev pub line_if_source : World → List StanzaKey → List ℕ × List ℕ → List ℕ
line_if_source world row line = if is_source line.0 world.lists row then line.1 else []
