use Rattle.std.proofs.Common.{◌≡◌, ◌||◌, ℕ, List}
use Rattle.std.specs.List.{list_any}
use Rattle.ctl_index.specs.declared.keys.AtomKey.{AtomKey}
use Rattle.ctl_query.specs.Interest.{is_of_package}
use Rattle.ctl_query.specs.NameSet.{lent_names, is_among}
use Rattle.ctl_query.proofs.interest.packages_naming.Given as goal

-- the packages so far and those of the keys that are left are those of all keys
abbrev pub invariant-namers : goal.invariant-namers
invariant-namers l = (asker : List ℕ) → (list_any (λ (key : AtomKey). is_of_package l.asking asker key.stanza) l.key-iterator || is_among (lent_names l.names.items) asker) ≡ list_any (λ (key : AtomKey). is_of_package l.asking asker key.stanza) l.initial.key-iterator
