-- What the words of a filter ask for (grep-dctrl(1)).
use Rattle.std.specs.Prelude.{◌≡◌, ℕ, Bool, true, List, Option, Result, Ok, Err, if◌then◌else◌}
use Rattle.std.specs.List.{list_all, list_any}
use Rattle.ctl_store.specs.declared.refusal.Refusal.{Refusal}
use Rattle.ctl_store.specs.declared.refusal.Refusal.TheVariants as refusal
use Rattle.ctl_filter.specs.declared.piece.Piece.{Piece}
use Rattle.ctl_filter.specs.Words.{letter_c, letter_d, letter_n, letter_v, pieces_of}
use Rattle.ctl_filter.specs.Names.{are_field_names}
use Rattle.ctl_filter.specs.Atoms.{Parts, parts_of, is_given, names_shown, fields_shown}
use Rattle.ctl_filter.specs.Trees.{truth_of}
use Rattle.ctl_filter.specs.Filter.{Atom, Truth, Filter, is_readable, has_expression}

-- how stanzas are shown
pub record Shown : Type 0 where
  -- only the bodies are shown, by -n
  pub bodies_alone : Bool
  -- of Description the first line alone, by -d
  pub first_line_alone : Bool
  -- the fields to show; none where the whole stanza is shown
  pub fields : Option (List (List ℕ))

pub record FilterQuery : Type 0 where
  -- stanzas that don't pass are taken, by -v
  pub inverted : Bool
  -- their number alone is shown, by -c
  pub counted : Bool
  pub shown : Shown
  pub filter : Filter

abbrev pub shown_by : List Piece → Shown
shown_by pieces = record {
  bodies_alone = is_given letter_n pieces;
  first_line_alone = is_given letter_d pieces;
  fields = fields_shown (is_given letter_d pieces) (names_shown pieces);
}

abbrev pub query_by : List Piece → List Atom → Truth → FilterQuery
query_by pieces atoms truth = record {
  inverted = is_given letter_v pieces;
  counted = is_given letter_c pieces;
  shown = shown_by pieces;
  filter = record { atoms = atoms; truth = truth };
}

-- ---- the first refusal: bad arguments, then a bad filter, then a bad pattern

abbrev pub if_patterns : List Piece → List Atom → Truth → Result FilterQuery Refusal
if_patterns pieces atoms truth = if list_all is_readable atoms then Ok (query_by pieces atoms truth) else Err refusal.Pattern

abbrev pub if_truth : List Piece → List Atom → Result Truth Refusal → Result FilterQuery Refusal
if_truth pieces atoms (Ok truth) = if_patterns pieces atoms truth
if_truth pieces atoms (Err cause) = Err cause

abbrev pub if_parts : List Piece → Result Parts Refusal → Result FilterQuery Refusal
if_parts pieces (Ok parts) = if_truth pieces parts.atoms (truth_of parts.tokens)
if_parts pieces (Err cause) = Err cause

abbrev pub if_pieces : Result (List Piece) Refusal → Result FilterQuery Refusal
if_pieces (Ok pieces) = if are_field_names (names_shown pieces) then if_parts pieces (parts_of pieces) else Err refusal.Filter
if_pieces (Err cause) = Err cause

-- What words ask for, or the first of these refusals: a word that is none of grep-dctrl's; fields that are no names,
-- modifiers without a pattern, words that are no expression; a pattern of `--rx` that isn't UTF-8, that the grammar of `regex`
-- doesn't read, or that nests deeper than `regex` goes.
unfoldable pub filter_of : List (List ℕ) → Result FilterQuery Refusal
filter_of words = if_pieces (pieces_of words)

-- ---- well-formed patterns, which `regex` may refuse

-- it has a pattern of `--rx`
abbrev pub asks_expression : FilterQuery → Bool
asks_expression query = list_any has_expression query.filter.atoms

-- A filter with a pattern of `--rx` is asked for: all its patterns are well formed then.
abbrev pub AsksExpression : Result FilterQuery Refusal → Type 0
AsksExpression (Ok query) = asks_expression query ≡ true
AsksExpression (Err cause) = ⊥
