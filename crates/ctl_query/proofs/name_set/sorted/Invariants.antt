use Rattle.std.proofs.Common.{◌≡◌, ◌++◌, ℕ, List, take}
use Rattle.ctl_query.specs.NameSet.{lent_names, is_among}
use Rattle.ctl_query.proofs.name_set.sorted.Given as goal

-- the set has the names so far
abbrev pub invariant-names : goal.invariant-names
invariant-names l = (name : List ℕ) → is_among (lent_names l.set.keys) name ≡ is_among (lent_names (take l.name-index l.names)) name

-- what was taken over, and what is left, are its names
abbrev pub invariant-set : goal.invariant-set
invariant-set l = lent_names l.sorted.items ++ lent_names l.name-iterator ≡ lent_names l.initial.name-iterator
