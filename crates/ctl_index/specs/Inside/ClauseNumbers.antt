-- Of the tables alone: the numbers of clauses, those of one stanza side by side.
use Rattle.std.specs.Prelude.{ℕ, Bool, List, [], ◌∷◌, flat_map, nat_eq, Option, Some, if◌then◌else◌}
use Rattle.std.specs.List.Sorted.{IsStrictlySortedBy}
use Rattle.std.specs.Map.{keys_of, lookup}
use Rattle.std.specs.Ordering.{nat_cmp, is_eq, ordering_then}
use Rattle.std.specs.declared.cmp.Ordering.{Ordering}
use Rattle.ctl_relation.specs.FieldKind.{field_place}
use Rattle.ctl_store.specs.declared.stanza_key.StanzaKey.{StanzaKey}
use Rattle.ctl_index.specs.declared.keys.ClauseKey.{ClauseKey}
use Rattle.ctl_index.specs.declared.stanza_numbers.ClausePlace.{ClausePlace}
use Rattle.ctl_index.specs.Clauses.{clause_cmp}

-- the clauses of a stanza by their places, each with its number
abbrev pub Placed : Type 0
Placed = List (ClausePlace × ℕ)

-- by field, then by the place of the group in it
abbrev pub place_cmp : ClausePlace → ClausePlace → Ordering
place_cmp a b = ordering_then (nat_cmp (field_place a.field) (field_place b.field)) (nat_cmp a.group b.group)

abbrev pub place_of : ClauseKey → ClausePlace
place_of k = record { field = k.field; group = k.group }

-- the clause at a place of a stanza
abbrev pub clause_at_place : StanzaKey → ClausePlace → ClauseKey
clause_at_place stanza place = record { stanza = stanza; field = place.field; group = place.group }

-- the number at a place
abbrev pub number_at_place : ClausePlace → Placed → Option ℕ
number_at_place place clauses = lookup (λ q. is_eq (place_cmp place q)) clauses

-- the same, once these clauses came in turn
abbrev pub come_in : Placed → ClausePlace → Option ℕ → Option ℕ
come_in [] q old = old
come_in (clause ∷ clauses) q old = come_in clauses q (if is_eq (place_cmp clause.0 q) then Some clause.1 else old)

-- each place is below those after it
abbrev pub AreInPlace : Placed → Type 0
AreInPlace clauses = IsStrictlySortedBy place_cmp (keys_of clauses)

-- the clauses of a stanza, each with its number
abbrev pub clauses_numbered : StanzaKey → Placed → List (ClauseKey × ℕ)
clauses_numbered stanza [] = []
clauses_numbered stanza (clause ∷ clauses) = (clause_at_place stanza clause.0, clause.1) ∷ clauses_numbered stanza clauses

-- those of all stanzas
abbrev pub all_numbered : List (StanzaKey × Placed) → List (ClauseKey × ℕ)
all_numbered stanzas = flat_map (λ (e : StanzaKey × Placed). clauses_numbered e.0 e.1) stanzas

-- whether a clause is marked, once those of a stanza that stand at 0 were marked so
abbrev pub zeros_marked : Bool → StanzaKey → Placed → ClauseKey → Bool → Bool
zeros_marked mark stanza [] k old = old
zeros_marked mark stanza (clause ∷ clauses) k old =
    zeros_marked mark stanza clauses k (if nat_eq clause.1 0 then (if is_eq (clause_cmp (clause_at_place stanza clause.0) k) then mark else old) else old)
