-- The answer to `pkgnames`.
use Rattle.std.specs.Prelude.{ℕ, Bool, List, [], ◌∷◌, nat_eq, filter, flat_map, if◌then◌else◌}
use Rattle.std.specs.List.{starts_with}
use Rattle.ctl_policy.specs.Priority.{World}
use Rattle.ctl_query.specs.Packages.{packages_of, names_known}
use Rattle.ctl_filter.specs.Texts.{line}

abbrev pub name_line : List ℕ → List ℕ
name_line name = line (name ∷ [])

abbrev pub begins_with : List ℕ → List ℕ → Bool
begins_with prefix name = starts_with nat_eq name prefix

-- Each name that has a row, or with `--all-names` each known name, that begins with the prefix.
abbrev pub package_names_text : World → Bool → List ℕ → List ℕ
package_names_text world all prefix =
    flat_map name_line (filter (begins_with prefix) (if all then names_known world else packages_of world))
