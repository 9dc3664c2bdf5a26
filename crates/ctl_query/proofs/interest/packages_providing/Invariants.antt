use Rattle.std.proofs.Common.{◌≡◌, ◌||◌, ℕ, List}
use Rattle.std.specs.List.{list_any}
use Rattle.ctl_query.specs.Interest.{is_provider}
use Rattle.ctl_query.specs.NameSet.{lent_names, is_among}
use Rattle.ctl_query.proofs.interest.packages_providing.Given as goal

-- the packages so far and those of the keys that are left are those of all keys
abbrev pub invariant-offering : goal.invariant-offering
invariant-offering l = (asker : List ℕ) → (list_any (is_provider l.store asker) l.key-iterator || is_among (lent_names l.names.items) asker) ≡ list_any (is_provider l.store asker) l.initial.key-iterator
