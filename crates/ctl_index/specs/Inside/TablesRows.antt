-- Of the tables alone: the rows under the names follow stanzas that come and go.
use Rattle.std.specs.Prelude.{List}
use Rattle.ctl_store.specs.Entries.{Entry}
use Rattle.ctl_store.specs.Followed.{under, AreApart}
use Rattle.ctl_policy.specs.Kept.{RowsByName, Stanzas, IsKept}
use Rattle.ctl_index.specs.Inside.TablesByName.{NameMap, rows_under}
use Rattle.ctl_index.specs.Inside.TablesParts.{AreParted}

-- in the row of each name and version stand the keys of its live stanzas, in order
abbrev pub AreKept : List Entry → NameMap → Type 0
AreKept es m = IsKept (rows_under m) (λ k. under k es)

-- rows that were those of some stanzas are those of these and of the ones that came
abbrev pub AreRowsPut : List Entry → RowsByName → RowsByName → Type 0
AreRowsPut come old new = (all rest : Stanzas) → AreParted all rest come → AreApart come → IsKept old rest → IsKept new all

-- rows that were those of some stanzas and of the ones that went are those of the stanzas alone
abbrev pub AreRowsTaken : List Entry → RowsByName → RowsByName → Type 0
AreRowsTaken gone old new = (all rest : Stanzas) → AreParted all rest gone → AreApart gone → IsKept old all → IsKept new rest
