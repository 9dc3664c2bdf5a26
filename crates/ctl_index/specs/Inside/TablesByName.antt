-- Of the tables alone: what stands under a name, that is its offers, the atoms that name it, its rows, and what is chosen of them.
use Rattle.std.specs.Prelude.{◌≡◌, ℕ, List, [], Bool, true, false, not, ◌&&◌, ◌||◌, length, nat_eq, nat_le, Option, None, Some, is_some, OnSome, if◌then◌else◌}
use Rattle.std.specs.Borrow.{LendsSo, MutBor, Fml}
use Rattle.std.specs.BTreeMap.{get}
use Rattle.std.specs.Cmp.Lexicographic.{slice_cmp}
use Rattle.std.specs.FinMap as fin
use Rattle.std.specs.Option.{option_map_or}
use Rattle.std.specs.Ordering.{nat_cmp}
use Rattle.std.specs.Str.{bytes_eq}
use Rattle.ctl_policy.specs.declared.chosen.Chosen.{Chosen}
use Rattle.ctl_policy.specs.Chosen.{at_bytes, no_choice}
use Rattle.ctl_policy.specs.Rows.{Rows}
use Rattle.ctl_index.specs.declared.keys.NamingAtom.{NamingAtom}
use Rattle.ctl_index.specs.declared.keys.OfferKey.{OfferKey}
use Rattle.ctl_index.specs.Inside.ShortName.{most_short}
use Rattle.ctl_index.specs.contracts.name_map.NameMap.{the_row}
use Rattle.ctl_index.specs.contracts.named.Named.{the_row as named_row}
use Rattle.ctl_index.specs.declared.named.ChosenRows.{ChosenRows}
use Rattle.ctl_index.specs.declared.named.Named.{Named}
pub use Rattle.ctl_index.specs.declared.name_map.NameMap.{NameMap}

-- what stands under a name, if anything does: short names stand in one tree, and longer ones in another
abbrev pub at_name : NameMap → List ℕ → Option Named
at_name m name = if nat_le (length name) most_short then get (slice_cmp nat_cmp) m.short.tree name else at_bytes m.long.tree name

-- nothing stands under any name
abbrev pub HoldsNothing : NameMap → Type 0
HoldsNothing m = (q : List ℕ) → at_name m q ≡ None

-- under one name there is this from now on, and under others what there was
abbrev pub IsSetAt : List ℕ → NameMap → NameMap → Option Named → Type 0
IsSetAt name old new named = (q : List ℕ) → at_name new q ≡ (if bytes_eq name q then named else at_name old q)

-- under each name there is what there was
abbrev pub HasSameNames : NameMap → NameMap → Type 0
HasSameNames old new = (q : List ℕ) → at_name new q ≡ at_name old q

-- A table that lends what stands under a name ends with what is left there, and as it was where nothing is.
abbrev pub LendsNamed : MutBor NameMap → List ℕ → Option (MutBor Named) → Fml
LendsNamed m name r = LendsSo the_row named_row m r (λ n named. OnSome r (IsSetAt name m.now n (Some named))) (HasSameNames m.now)

-- a part of what stands under a name, or this where the name isn't there
abbrev pub part_under : {T : Type 0} → (Named → T) → T → NameMap → List ℕ → T
part_under part none m name = option_map_or part (at_name m name) none

abbrev pub named_offers : Named → List OfferKey
named_offers v = v.offers

abbrev pub named_namers : Named → List NamingAtom
named_namers v = v.namers

abbrev pub named_own : Named → ChosenRows
named_own v = v.own

-- no rows, of which nothing is chosen
abbrev pub no_rows : ChosenRows
no_rows = record { rows = fin.empty; chosen = no_choice }

-- the offers of a name, the atoms that name it, its rows with what is chosen of them, and each of these two
abbrev pub offers_under : NameMap → List ℕ → List OfferKey
offers_under m name = part_under named_offers [] m name

abbrev pub namers_under : NameMap → List ℕ → List NamingAtom
namers_under m name = part_under named_namers [] m name

abbrev pub own_under : NameMap → List ℕ → ChosenRows
own_under m name = part_under named_own no_rows m name

abbrev pub rows_under : NameMap → List ℕ → Rows
rows_under m name = (own_under m name).rows

abbrev pub chosen_under : NameMap → List ℕ → Chosen
chosen_under m name = (own_under m name).chosen

-- whether there is no row, and nothing is chosen either
abbrev pub is_bare : ChosenRows → Bool
is_bare own = nat_eq (fin.len own.rows) 0 && not (is_some own.chosen.installed || is_some own.chosen.candidate)

-- whether anything stands under a name
abbrev pub is_used : Named → Bool
is_used v = not ((nat_eq (length (named_offers v)) 0 && nat_eq (length (named_namers v)) 0) && is_bare (named_own v))

-- a name that has a row, or of which anything is chosen, is offered
abbrev pub AreOffered : NameMap → Type 0
AreOffered m = (q : List ℕ) → is_bare (own_under m q) ≡ false → nat_eq (length (offers_under m q)) 0 ≡ false

-- no name is there under which nothing stands
abbrev pub AreUsed : NameMap → Type 0
AreUsed m = (q : List ℕ) → option_map_or is_used (at_name m q) true ≡ true
