-- The answer to a filter (grep-dctrl(1)).
use Rattle.std.specs.Prelude.{ℕ, Bool, not, ◌==◌, ◌&&◌, ◌||◌, List, [], ◌∷◌, ◌++◌, length, take}
use Rattle.std.specs.Prelude.{flat_map, codes, decimal, Option, Some, None, is_some, if◌then◌else◌}
use Rattle.std.specs.List.{filter, list_any, prefix_len}
use Rattle.std.specs.Option.{option_map_or}
use Rattle.ctl_relation.specs.Bytes.{newline}
use Rattle.ctl_stanza.specs.Content.{Content, named_bodies}
use Rattle.ctl_stanza.specs.Fields.{is_same_name}
use Rattle.ctl_filter.specs.Names.{is_description}
use Rattle.ctl_filter.specs.Texts.{line}
use Rattle.ctl_filter.specs.Filter.{filter_passes}
use Rattle.ctl_filter.specs.Query.{Shown, FilterQuery}

abbrev pub is_taken : FilterQuery → Content → Bool
is_taken query stanza = if query.inverted then not (filter_passes query.filter stanza) else filter_passes query.filter stanza

-- ---- the fields of a stanza

-- the first field of a name, as the stanza spells it, and its body
abbrev pub entry_among : List ℕ → List (List ℕ × List ℕ) → Option (List ℕ × List ℕ)
entry_among name [] = None
entry_among name (field ∷ fields) = if is_same_name field.0 name then Some field else entry_among name fields

abbrev pub is_in_line : ℕ → Bool
is_in_line b = not (b == newline)

abbrev pub first_line : List ℕ → List ℕ
first_line body = take (prefix_len is_in_line body) body

abbrev pub body_shown : Shown → List ℕ → List ℕ → List ℕ
body_shown shown name body = if shown.first_line_alone && is_description name then first_line body else body

-- a space where the first line of the body isn't empty
abbrev pub gap_before : List ℕ → List ℕ
gap_before [] = []
gap_before (b ∷ text) = codes " "

abbrev pub gap : List ℕ → List ℕ
gap body = gap_before (first_line body)

abbrev pub entry_line : Shown → List ℕ × List ℕ → List ℕ
entry_line shown entry =
    if shown.bodies_alone then line (body_shown shown entry.0 entry.1 ∷ [])
    else line (entry.0 ∷ codes ":" ∷ gap entry.1 ∷ body_shown shown entry.0 entry.1 ∷ [])

abbrev pub field_line : Shown → Content → List ℕ → List ℕ
field_line shown stanza name = option_map_or (entry_line shown) (entry_among name (named_bodies stanza)) []

abbrev pub has_field : Content → List ℕ → Bool
has_field stanza name = is_some (entry_among name (named_bodies stanza))

-- an empty line behind the fields, unless one field alone is to be shown, or the stanza has none of them
abbrev pub field_end : Content → List (List ℕ) → List ℕ
field_end stanza names = if length names == 1 || not (list_any (has_field stanza) names) then [] else line []

abbrev pub fields_text : Shown → Content → List (List ℕ) → List ℕ
fields_text shown stanza names = flat_map (field_line shown stanza) names ++ field_end stanza names

-- its text and an empty line, or the fields to show
unfoldable pub stanza_shown : Shown → Content → List ℕ
stanza_shown shown stanza = option_map_or (fields_text shown stanza) shown.fields (line (stanza.text ∷ []))

-- ---- all stanzas

-- all stanzas are tried in order, live or not
abbrev pub taken_of : List Content → FilterQuery → List Content
taken_of stanzas query = filter (is_taken query) stanzas

abbrev pub filter_text : List Content → FilterQuery → List ℕ
filter_text stanzas query =
    if query.counted then line (decimal (length (taken_of stanzas query)) ∷ [])
    else flat_map (stanza_shown query.shown) (taken_of stanzas query)
