-- The state of a package in a status list, and whether a stanza is live (deb822(5), dpkg-query(1)).
use Rattle.std.specs.Prelude.{ℕ, not, ◌==◌, ◌||◌, Bool, true, false, List, [], ◌∷◌, codes, length, filter, Option, None, Some, if◌then◌else◌}
use Rattle.std.specs.List.{slice_split}
use Rattle.std.specs.Str.{bytes_eq}
use Rattle.ctl_relation.specs.Runs.{run, rest}
use Rattle.ctl_stanza.specs.declared.list_kind.ListKind.{ListKind}
use Rattle.ctl_stanza.specs.declared.list_kind.ListKind.TheVariants.{Packages, Status}
use Rattle.ctl_stanza.specs.Lines.{is_blank_byte}
use Rattle.ctl_stanza.specs.Fields.{FieldText, body_named, status_name}

-- a part of a text that has a byte
abbrev pub is_word : List ℕ → Bool
is_word part = not (length part == 0)

-- The words of a text: its parts between spaces and tabs, without the empty ones. A newline belongs to a word.
abbrev pub words_of : List ℕ → List (List ℕ)
words_of text = filter is_word (slice_split is_blank_byte text)

-- whether a word is one of the three states in which a package doesn't count as there
abbrev pub is_other_state : List ℕ → Bool
is_other_state word =
    bytes_eq word (codes "not-installed") || (bytes_eq word (codes "config-files") || bytes_eq word (codes "half-installed"))

-- whether a word is one of the five states in which a package counts as there
abbrev pub is_live_state : List ℕ → Bool
is_live_state word =
    bytes_eq word (codes "unpacked") || (bytes_eq word (codes "half-configured") || (bytes_eq word (codes "triggers-awaited")
    || (bytes_eq word (codes "triggers-pending") || bytes_eq word (codes "installed"))))

-- whether a package in a state is live; None where the word is none of the eight states
abbrev pub liveness_in : List ℕ → Option Bool
liveness_in word = if is_live_state word then Some true else (if is_other_state word then Some false else None)

-- Status has three words, of which the third is the state.
abbrev pub liveness_by_words : List (List ℕ) → Option Bool
liveness_by_words [] = None
liveness_by_words (want ∷ []) = None
liveness_by_words (want ∷ flag ∷ []) = None
liveness_by_words (want ∷ flag ∷ state ∷ []) = liveness_in state
liveness_by_words (want ∷ flag ∷ state ∷ other ∷ more) = None

abbrev pub liveness_by_body : List ℕ → Option Bool
liveness_by_body body = liveness_by_words (words_of body)

abbrev pub liveness_by : Option (List ℕ) → Option Bool
liveness_by None = None
liveness_by (Some body) = liveness_by_body body

-- Whether a stanza with these fields is live: each of a packages list is, and of a status list by its state. None where
-- there is no state.
abbrev pub liveness : ListKind → List FieldText → Option Bool
liveness Packages fields = Some true
liveness Status fields = liveness_by (body_named status_name fields)

abbrev pub is_yes : Option Bool → Bool
is_yes None = false
is_yes (Some answer) = answer

abbrev pub is_live_by : ListKind → List FieldText → Bool
is_live_by kind fields = is_yes (liveness kind fields)

-- ---- how one word after another is taken; not for callers

abbrev pub is_word_byte : ℕ → Bool
is_word_byte b = not (is_blank_byte b)

-- the first word of a text, or nothing, and what stands behind it
abbrev pub first_word : List ℕ → List ℕ
first_word text = run is_word_byte (rest is_blank_byte text)

abbrev pub behind_word : List ℕ → List ℕ
behind_word text = rest is_word_byte (rest is_blank_byte text)
