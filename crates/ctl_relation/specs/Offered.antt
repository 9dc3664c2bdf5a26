-- What the entries of Provides offer (Debian Policy 7.5).
use Rattle.std.specs.Prelude.{ℕ, List, map, flat_map}
use Rattle.std.specs.Option.{option_map}
use Rattle.ctl_relation.specs.declared.operator.Operator.{Operator}
use Rattle.ctl_relation.specs.Parts.{AtomParts, OfferParts}

-- what an entry of Provides offers: its name, at its version if it has one
abbrev pub offer_of : AtomParts → OfferParts
offer_of atom = record { name = atom.name; version = option_map (λ (bound : Operator × List ℕ). bound.1) atom.bound }

-- what the entries of Provides offer
abbrev pub offers_in : List (List AtomParts) → List OfferParts
offers_in groups = flat_map (λ group. map offer_of group) groups
