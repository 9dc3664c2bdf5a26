-- The lists of a store, as they are shown.
use Rattle.std.proofs.Common.{◌≡◌, ℕ, Bool, true, false, cond, List, [], ◌∷◌, ◌++◌, map, filter, flat_map, refl, ap}
use Rattle.std.specs.Map.{keys_of as names_of}
use Rattle.ctl_store.specs.State.{shown_lists}
use Rattle.ctl_store.specs.declared.stanza_key.StanzaKey.{StanzaKey}
use Rattle.ctl_store.specs.Keys.{KeyedList, stanza_lists}
use Rattle.ctl_policy.specs.Priority.{World}
use Rattle.ctl_policy.specs.Rows.{is_source, sources_of}
use Rattle.ctl_query.specs.Inside.SourceLines.{with_line, lines_of_lists, line_if_source}
use Rattle.ctl_query.specs.Policy.{source_line}

-- their names
pub names_shown : (lists : List (List ℕ × KeyedList)) → map (λ shown. shown.0) (shown_lists (stanza_lists lists)) ≡ names_of lists
names_shown [] = refl
names_shown (list ∷ lists) = ap (λ names. list.0 ∷ names) (names_shown lists)

-- of the lines of all lists, those of the sources of a row
pub lines_of_sources : (world : World) (row : List StanzaKey) → flat_map (line_if_source world row) (lines_of_lists world) ≡ flat_map (source_line world) (sources_of row world.lists)
lines_of_sources world row = among (names_of world.lists)
  where
    among : (names : List (List ℕ)) → flat_map (line_if_source world row) (map (with_line world) names) ≡ flat_map (source_line world) (filter (λ (list : List ℕ). is_source list world.lists row) names)
    among [] = refl
    among (name ∷ names) = by (is_source name world.lists row) (among names)
      where
        by : (b : Bool) → flat_map (line_if_source world row) (map (with_line world) names) ≡ flat_map (source_line world) (filter (λ (list : List ℕ). is_source list world.lists row) names) →
            cond b (source_line world name) [] ++ flat_map (line_if_source world row) (map (with_line world) names)
            ≡ flat_map (source_line world) (cond b (name ∷ filter (λ (list : List ℕ). is_source list world.lists row) names) (filter (λ (list : List ℕ). is_source list world.lists row) names))
        by true rest = ap (λ text. source_line world name ++ text) rest
        by false rest = rest
