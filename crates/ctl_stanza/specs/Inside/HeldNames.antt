-- The names of fields that a stanza has given so far. Not for callers.
use Rattle.std.specs.Prelude.{◌≡◌, ℕ, Bool, true, false, ◌||◌, List}
use Rattle.std.specs.List.{list_any}
use Rattle.std.specs.Str.{bytes_eq, str_to_ascii_lowercase}
use Rattle.ctl_stanza.specs.declared.line_kind.LineKind.{LineKind}
use Rattle.ctl_stanza.specs.declared.line_faults.LinesSeen.{LinesSeen}
use Rattle.ctl_stanza.specs.Given.{Given}
use Rattle.ctl_stanza.specs.Fields.{is_same_name}
use Rattle.ctl_stanza.specs.Faults.{gives_name, names_of, has_name}

-- whether a name was given, without regard to ASCII case
abbrev pub holds : Given → List ℕ → Bool
holds names name = list_any (is_same_name name) names.first || list_any (bytes_eq (str_to_ascii_lowercase name)) names.others

abbrev pub HoldsNone : Given → Type 0
HoldsNone names = (name : List ℕ) → holds names name ≡ false

-- no line was seen
pub record HasSeenNone (seen : LinesSeen) : Type 0 where
  pub names : HoldsNone seen.names
  pub body : seen.body_len ≡ 0
  pub none : seen.is_none ≡ true

-- the names are those that lines give
abbrev pub HoldsNamesOf : List (List ℕ) → Given → Type 0
HoldsNamesOf lines names = (other : List ℕ) → holds names other ≡ has_name (names_of lines) other

-- one name more is given
abbrev pub Adds : Given → Given → List ℕ → Type 0
Adds old new name = (other : List ℕ) → holds new other ≡ (is_same_name other name || holds old other)

-- the name of a line is given, if the line is of a kind that has one
abbrev pub AddsNameOf : LineKind → List ℕ → Given → Given → Type 0
AddsNameOf kind line old new = (other : List ℕ) → holds new other ≡ (gives_name kind line other || holds old other)
