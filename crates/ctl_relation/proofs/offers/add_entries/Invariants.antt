use Rattle.std.proofs.Common.{◌≡◌, ◌++◌, length}
use Rattle.ctl_relation.specs.Offered.{offers_in}
use Rattle.ctl_relation.proofs.offers.add_entries.Given as goal

-- what was added, and what the groups that are left offer, is what all offer
abbrev pub invariant-groups : goal.invariant-groups
invariant-groups l = l.offers.items ++ offers_in l.groups ≡ l.fn.offers.items ++ offers_in l.fn.provides

abbrev pub decreases-groups : goal.decreases-groups
decreases-groups l = length l.groups
