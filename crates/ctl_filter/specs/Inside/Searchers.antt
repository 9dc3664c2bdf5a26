-- What serves each search of a test again.
use Rattle.std.specs.Prelude.{◌≡◌, ℕ, Bool, false, not, List, ◌==◌, Option, Some, None, if◌then◌else◌}
use Rattle.std.specs.List.{list_any}
use Rattle.std.specs.Option.{option_map}
use Rattle.std.specs.Str.{str_to_ascii_lowercase}
use Rattle.regex.specs.Patterns.{Re}
use Rattle.regex.specs.Bytes.{matcher_pattern}
use Rattle.ctl_filter.specs.declared.atom.Test.{Test as HeldTest}
use Rattle.ctl_filter.specs.declared.atom.Test.TheVariants as held
use Rattle.ctl_filter.specs.declared.atom.Searcher.{Searcher}
use Rattle.ctl_filter.specs.declared.atom.Searcher.TheVariants as searcher
use Rattle.ctl_relation.specs.Bytes.{newline}
use Rattle.ctl_filter.specs.Substring.{contains}
use Rattle.ctl_filter.specs.Inside.Views.{expression_tree}

-- what is searched for: a text, or an expression
pub data Sought : Type 0 where
  Text : List ℕ → Sought
  Tree : Re → Sought

abbrev pub sought_in : Searcher → Sought
sought_in (searcher.Substring finder) = Text finder.value.finder
sought_in (searcher.Matcher matcher) = Tree (matcher_pattern matcher.value)

-- what an atom's searcher searches for, if it has one
abbrev pub sought_by : Option Searcher → Option Sought
sought_by searcher = option_map sought_in searcher

-- what is to be searched for by a test
abbrev pub sought_of : HeldTest → Option Sought
sought_of (held.Substring any_case pattern) = Some (Text (if any_case then str_to_ascii_lowercase pattern else pattern))
sought_of (held.Exact any_case pattern) = None
-- an expression is searched for by its tree
sought_of (held.Expression expression) = Some (Tree (expression_tree expression.value))
sought_of (held.Compare operator pattern) = None

-- the searcher is the test's
abbrev pub Fits : HeldTest → Option Searcher → Type 0
Fits test searcher = sought_by searcher ≡ sought_of test

-- whether the text that is searched for stands in another, in any case in its small letters
abbrev pub finds : Bool → Option Sought → List ℕ → Bool
finds any_case None text = false
finds any_case (Some (Text pattern)) text = if any_case then contains pattern (str_to_ascii_lowercase text) else contains pattern text
finds any_case (Some (Tree tree)) text = false

abbrev pub is_newline : ℕ → Bool
is_newline byte = byte == newline

-- a substring is asked for, whose pattern has no newline
abbrev pub is_within_lines : HeldTest → Bool
is_within_lines (held.Substring any_case pattern) = not (list_any is_newline pattern)
is_within_lines _ = false
