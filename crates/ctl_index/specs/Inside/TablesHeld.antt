-- Of the tables alone: what stands in them, and how many tests they count.
use Rattle.std.specs.Prelude.{◌≡◌, ◌≤◌, ℕ, List, Option}
use Rattle.ctl_policy.specs.declared.chosen.Chosen.{Chosen}
use Rattle.ctl_policy.specs.Rows.{Rows}
use Rattle.ctl_index.specs.declared.keys.ClauseKey.{ClauseKey}
use Rattle.ctl_index.specs.declared.keys.NamingAtom.{NamingAtom}
use Rattle.ctl_index.specs.declared.keys.OfferKey.{OfferKey}
use Rattle.ctl_index.specs.declared.named.ChosenRows.{ChosenRows}
use Rattle.ctl_index.specs.declared.tables.Tables.{Tables}
use Rattle.ctl_index.specs.Clauses.{number_among}
use Rattle.ctl_index.specs.Inside.TablesByName.{offers_under, namers_under, own_under, rows_under, chosen_under}
use Rattle.ctl_index.specs.Inside.TablesWaiting.{told}
use Rattle.ctl_index.specs.Work.{more_by}

-- what stands under a name: its offers, the atoms that name it, its rows with what is chosen of them, and each of these two
abbrev pub offers_in : Tables → List ℕ → List OfferKey
offers_in t = offers_under t.names.map

abbrev pub namers_in : Tables → List ℕ → List NamingAtom
namers_in t = namers_under t.names.map

abbrev pub own_in : Tables → List ℕ → ChosenRows
own_in t = own_under t.names.map

abbrev pub rows_in : Tables → List ℕ → Rows
rows_in t = rows_under t.names.map

abbrev pub chosen_in : Tables → List ℕ → Chosen
chosen_in t = chosen_under t.names.map

-- the number of a clause; the same, once those are entered that wait
abbrev pub number_in : Tables → ClauseKey → Option ℕ
number_in t k = number_among t.counters.numbers k

abbrev pub number_told : Tables → ClauseKey → Option ℕ
number_told t k = told t.counters.waiting t.counters.numbers k

-- so many tests were made, or at most so many
abbrev pub HasTested : ℕ → Tables → Tables → Type 0
HasTested n old new = new.steps ≡ more_by n old.steps

abbrev pub TestsAtMost : ℕ → Tables → Tables → Type 0
TestsAtMost n old new = new.steps ≤ more_by n old.steps
