-- What was read of the words of a query.
use Rattle.std.specs.Prelude.{◌≡◌, ◌⊎◌, map, Bool, true, false, Result, Ok, Err}
use Rattle.ctl_store.specs.declared.refusal.Refusal.{Refusal}
use Rattle.ctl_store.specs.declared.refusal.Refusal.TheVariants as refusal
use Rattle.ctl_filter.specs.Query.{asks_expression}
use Rattle.ctl_filter.specs.HeldQuery.{query_of as asked_by}
use Rattle.ctl_query.specs.Asked.{asked_row}
use Rattle.ctl_query.specs.Query.{Query, PackageNames, Show, Depends, ReverseDepends, Unmet, Policy, ShowPackage, Filter}
use Rattle.ctl_query.specs.declared.query.Query.{Query as HeldQuery}
use Rattle.ctl_query.specs.declared.query.Query.TheVariants as held

abbrev pub query_text : HeldQuery → Query
query_text (held.PackageNames all prefix) = PackageNames all prefix
query_text (held.Show all rows) = Show all (map asked_row rows.items)
query_text (held.Depends options names) = Depends options names.items
query_text (held.ReverseDepends installed names) = ReverseDepends installed names.items
query_text (held.Unmet important) = Unmet important
query_text (held.Policy names) = Policy names.items
query_text (held.ShowPackage names) = ShowPackage names.items
query_text (held.Filter filter) = Filter (asked_by filter)

-- ---- patterns of `--rx`

-- whether a query has one
abbrev pub has_expression : Query → Bool
has_expression (PackageNames all prefix) = false
has_expression (Show all asked) = false
has_expression (Depends options names) = false
has_expression (ReverseDepends installed names) = false
has_expression (Unmet important) = false
has_expression (Policy names) = false
has_expression (ShowPackage names) = false
has_expression (Filter filter) = asks_expression filter

-- A query with a pattern of `--rx` is asked for.
abbrev pub AsksExpression : Result Query Refusal → Type 0
AsksExpression (Ok query) = has_expression query ≡ true
AsksExpression (Err cause) = ⊥

-- The query of the definition was read, or it is refused as the definition says, or memory ran out. Whether a pattern of
-- `--rx` can be built is the answer of `regex`: where it cannot be, the query is refused for its pattern.
abbrev pub ReadsQuery : Result HeldQuery Refusal → Result Query Refusal → Type 0
ReadsQuery (Ok query) asked = asked ≡ Ok (query_text query)
ReadsQuery (Err cause) asked = (asked ≡ Err cause) ⊎ ((cause ≡ refusal.Memory) ⊎ ((cause ≡ refusal.Pattern) × AsksExpression asked))
