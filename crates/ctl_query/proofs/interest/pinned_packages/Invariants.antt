use Rattle.std.proofs.Common.{◌≡◌, ◌||◌, ℕ, List}
use Rattle.ctl_query.specs.Interest.{is_pinned}
use Rattle.ctl_query.specs.NameSet.{lent_names, is_among}
use Rattle.ctl_query.proofs.interest.pinned_packages.Given as goal

-- the packages so far and those of the pins that are left are those of all pins
abbrev pub invariant-pins : goal.invariant-pins
invariant-pins l = (name : List ℕ) → (is_pinned l.selector-iterator name || is_among (lent_names l.names.items) name) ≡ is_pinned l.initial.selector-iterator name
