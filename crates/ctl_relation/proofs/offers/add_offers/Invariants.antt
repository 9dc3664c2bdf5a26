use Rattle.std.proofs.Common.{◌≡◌, ◌++◌, length, map}
use Rattle.ctl_relation.specs.Offered.{offer_of}
use Rattle.ctl_relation.proofs.offers.add_offers.Given as goal

-- what was added, and what the atoms that are left offer, is what all offer
abbrev pub invariant-atoms : goal.invariant-atoms
invariant-atoms l = l.offers.items ++ map offer_of l.atoms ≡ l.fn.offers.items ++ map offer_of l.group

abbrev pub decreases-atoms : goal.decreases-atoms
decreases-atoms l = length l.atoms
