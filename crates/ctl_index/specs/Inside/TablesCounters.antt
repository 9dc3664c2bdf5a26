-- Of the tables alone: counters, and the clauses that stand at 0.
use Rattle.std.specs.Prelude.{◌≡◌, ℕ, ◌+◌, ◌-◌, ◌^◌, min, max, false, nat_eq, List, Option}
use Rattle.std.specs.Option.{option_map, option_map_or}
use Rattle.std.specs.BTreeSet.{BTreeSet, contains}
use Rattle.ctl_index.specs.declared.keys.ClauseKey.{ClauseKey}
use Rattle.ctl_index.specs.Clauses.{clause_cmp, number_among}

abbrev pub Numbers : Type 0
Numbers = List (ClauseKey × ℕ)

-- the clauses whose counters stand at 0, and no others
abbrev pub AreUnmet : Numbers → BTreeSet ClauseKey → Type 0
AreUnmet numbers unmet = (k : ClauseKey) → contains clause_cmp unmet k ≡ option_map_or (λ n. nat_eq n 0) (number_among numbers k) false

-- A number that counts n more. At the last value below 2^96 it would stay, which no number of the tables comes to.
abbrev pub counted_up : ℕ → ℕ → ℕ
counted_up n number = max number (min (number + n) (2 ^ 96 - 1))

-- the number of a clause, if there is one, and so many less
abbrev pub less_by : ℕ → Option ℕ → Option ℕ
less_by n number = option_map (λ m. m - n) number
