-- Parts that are lent, as values.
use Rattle.std.specs.Prelude.{ℕ, List, Option}
use Rattle.std.specs.Borrow.{Bor}
use Rattle.std.specs.Option.{option_map}
use Rattle.ctl_relation.specs.declared.operator.Operator.{Operator}

-- what a reference points to, if there is one
abbrev pub lent : {A : Type 0} → Option (Bor A) → Option A
lent {A} r = option_map (λ (x : Bor A). x.now) r

-- a bound whose version is lent
abbrev pub lent_bound : Option (Operator × Bor (List ℕ)) → Option (Operator × List ℕ)
lent_bound r = option_map (λ (x : Operator × Bor (List ℕ)). (x.0, x.1.now)) r
