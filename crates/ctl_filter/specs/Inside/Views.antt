-- What a contract sees of a pattern that `regex` has built.
use Rattle.std.specs.Prelude.{ℕ, Bool, List}
use Rattle.regex.specs.Patterns.{Re}
use Rattle.regex.specs.Bytes.{regex_source, regex_pattern}
use Rattle.ctl_filter.specs.declared.expression.Expression.{Expression}

-- its bytes
abbrev pub expression_bytes : Expression → List ℕ
expression_bytes e = regex_source e.regex

-- whether it takes letters without regard to case
abbrev pub expression_ignores_case : Expression → Bool
expression_ignores_case e = e.ignores_case

-- what it is read as
abbrev pub expression_tree : Expression → Re
expression_tree e = regex_pattern e.regex
