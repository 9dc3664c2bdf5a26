-- The truth of a filter on a stanza (grep-dctrl(1)).
use Rattle.std.specs.Prelude.{ℕ, Bool, false, not, ◌&&◌, ◌||◌, true, List, map, slice_get, unwrap_or, Option, Some, None, if◌then◌else◌}
use Rattle.std.specs.List.{list_any}
use Rattle.std.specs.Option.{option_map_or}
use Rattle.std.specs.Str.{bytes_eq, str_eq_ignore_ascii_case}
use Rattle.ctl_relation.specs.declared.operator.Operator.{Operator}
use Rattle.ctl_relation.specs.Met.{relates}
use Rattle.ctl_stanza.specs.Content.{Content, body_of}
use Rattle.ctl_store.specs.PinVersions.{is_version}
use Rattle.ctl_filter.specs.Substring.{contains, contains_in_any_case}
use Rattle.ctl_filter.specs.Rx.{rx_matches, is_well_formed}

-- What an atom asks of a text. The first Bool says whether ASCII letters are taken without regard to case; of an expression
-- it is the option of `regex`.
pub data Test : Type 0 where
  Substring : Bool → List ℕ → Test
  Exact : Bool → List ℕ → Test
  Expression : Bool → List ℕ → Test
  -- both are versions, and the text stands so to the pattern
  Compare : Operator → List ℕ → Test

-- a text that is a version
abbrev pub version_in : List ℕ → Option (List ℕ)
version_in text = if is_version text then Some text else None

-- both are versions, and the first stands so to the second
abbrev pub are_related : Operator → Option (List ℕ) → Option (List ℕ) → Bool
are_related operator (Some version) (Some bound) = relates operator version bound
are_related operator (Some version) None = false
are_related operator None bound = false

abbrev pub text_passes : Test → List ℕ → Bool
text_passes (Substring Bool.false pattern) text = contains pattern text
text_passes (Substring Bool.true pattern) text = contains_in_any_case pattern text
text_passes (Exact Bool.false pattern) text = bytes_eq text pattern
text_passes (Exact Bool.true pattern) text = str_eq_ignore_ascii_case text pattern
text_passes (Expression any_case pattern) text = rx_matches any_case pattern text
text_passes (Compare operator pattern) text = are_related operator (version_in text) (version_in pattern)

-- an atom: the fields whose bodies are its texts, or none where it is the whole stanza's
pub record Atom : Type 0 where
  pub fields : Option (List (List ℕ))
  pub test : Test

-- the body of a field, if the stanza has it
abbrev pub field_passes : Test → Content → List ℕ → Bool
field_passes test stanza name = option_map_or (text_passes test) (body_of stanza name) false

-- one of its texts passes
abbrev pub atom_passes : Content → Atom → Bool
atom_passes stanza atom =
    option_map_or (λ names. list_any (field_passes atom.test stanza) names) atom.fields (text_passes atom.test stanza.text)

-- ---- expressions over atoms, which stand as their numbers

pub data Truth : Type 0 where
  Value : ℕ → Truth
  Not : Truth → Truth
  Both : Truth → Truth → Truth
  Either : Truth → Truth → Truth

-- the value of an atom
abbrev pub value_at : List Bool → ℕ → Bool
value_at values n = unwrap_or (slice_get values n) false

abbrev pub is_true : List Bool → Truth → Bool
is_true values (Value n) = value_at values n
is_true values (Not x) = not (is_true values x)
is_true values (Both x y) = is_true values x && is_true values y
is_true values (Either x y) = is_true values x || is_true values y

-- a filter: its atoms, and how their values make its truth
pub record Filter : Type 0 where
  pub atoms : List Atom
  pub truth : Truth

abbrev pub filter_passes : Filter → Content → Bool
filter_passes filter stanza = is_true (map (atom_passes stanza) filter.atoms) filter.truth

-- ---- patterns of `--rx`

abbrev pub is_expression : Test → Bool
is_expression (Expression any_case pattern) = true
is_expression (Substring any_case pattern) = false
is_expression (Exact any_case pattern) = false
is_expression (Compare operator pattern) = false

abbrev pub has_expression : Atom → Bool
has_expression atom = is_expression atom.test

-- a pattern of `--rx` has to be well formed
abbrev pub test_is_readable : Test → Bool
test_is_readable (Expression any_case pattern) = is_well_formed any_case pattern
test_is_readable (Substring any_case pattern) = true
test_is_readable (Exact any_case pattern) = true
test_is_readable (Compare operator pattern) = true

abbrev pub is_readable : Atom → Bool
is_readable atom = test_is_readable atom.test
