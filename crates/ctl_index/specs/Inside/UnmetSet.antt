-- The clauses at 0: of those that have a place, the ones that are marked so.
use Rattle.std.specs.Prelude.{Bool, List, [], ◌∷◌, if◌then◌else◌}
use Rattle.std.specs.BTreeMap.{BTreeMap}
use Rattle.std.specs.BTreeSet.{BTreeSet}
use Rattle.ctl_index.specs.declared.keys.ClauseKey.{ClauseKey}

abbrev pub unmet_keys : List (ClauseKey × Bool) → List ClauseKey
unmet_keys [] = []
unmet_keys (place ∷ places) = if place.1 then place.0 ∷ unmet_keys places else unmet_keys places

abbrev pub unmet_of : BTreeMap ClauseKey Bool → BTreeSet ClauseKey
unmet_of places = record { keys = unmet_keys places.entries }
