-- What callers see of an atom and of an offer.
use Rattle.std.specs.Prelude.{ℕ, List, Option}
use Rattle.ctl_relation.specs.declared.operator.Operator.{Operator}

-- An atom is a name, an architecture qualifier if there is one, and a bound if there is one: an operator and a version.
pub record AtomParts : Type 0 where
  pub name : List ℕ
  pub qualifier : Option (List ℕ)
  pub bound : Option (Operator × List ℕ)

-- An offer is a name, and a version if there is one.
pub record OfferParts : Type 0 where
  pub name : List ℕ
  pub version : Option (List ℕ)
