-- The maximal runs of lines that aren't blank: the stanzas of a text (deb822(5)), and the records of preferences.
use Rattle.std.specs.Prelude.{◌≡◌, ◌+◌, ◌<◌, ◌≤◌, ℕ, true, false, List, [], length, take, drop, map, slice_index_or, Contains}
use Rattle.std.specs.List.{All}
use Rattle.std.specs.List.Sorted.{IsStrictlyIncreasing}
use Rattle.ctl_stanza.specs.Lines.{is_blank}

abbrev pub line_at : List (List ℕ) → ℕ → List ℕ
line_at lines i = slice_index_or lines i []

-- a stanza stands at the line at start: a maximal run of lines that aren't blank
pub record IsStanzaAt (lines : List (List ℕ)) (start : ℕ) (stanza : List (List ℕ)) : Type 0 where
  pub some : 0 < length stanza
  pub within : start + length stanza ≤ length lines
  pub lines_are : take (length stanza) (drop start lines) ≡ stanza
  pub no_blank : (i : ℕ) → start ≤ i → i < start + length stanza → is_blank (line_at lines i) ≡ false
  pub begins : (i : ℕ) → i + 1 ≡ start → is_blank (line_at lines i) ≡ true
  pub ends : start + length stanza < length lines → is_blank (line_at lines (start + length stanza)) ≡ true

-- lines that stand together, and the index of the first of them
pub record Run : Type 0 where
  pub start : ℕ
  pub lines : List (List ℕ)

-- a run is a stanza, and all its lines stand before the line at an index
abbrev pub IsStanzaBefore : List (List ℕ) → ℕ → Run → Type 0
IsStanzaBefore lines end run = IsStanzaAt lines run.start run.lines × (run.start + length run.lines ≤ end)

-- These are the stanzas before the line at an index, each of them once and in order: each run is one, each of them is
-- here, and the lines at which they begin rise.
pub record AreStanzasBefore (lines : List (List ℕ)) (end : ℕ) (runs : List Run) : Type 0 where
  pub stand : All (IsStanzaBefore lines end) runs
  pub whole : (run : Run) → IsStanzaBefore lines end run → Contains runs run
  pub rise : IsStrictlyIncreasing (map (λ (run : Run). run.start) runs)
