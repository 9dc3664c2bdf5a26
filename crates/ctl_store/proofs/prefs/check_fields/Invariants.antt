use Rattle.std.proofs.Common.{◌≡◌}
use Rattle.ctl_stanza.specs.Records.{parts_of_fields}
use Rattle.ctl_store.specs.Prefs.{first_wrong}
use Rattle.ctl_store.proofs.prefs.check_fields.Given as goal

abbrev pub invariant-loop-name : goal.invariant-loop-name
invariant-loop-name l =
    (goal.iterator-loop-name).can_next l.name-iterator ×
    (goal.iterator-loop-name).is_finite l.name-iterator × (first_wrong l.general l.name-iterator ≡ first_wrong l.general (parts_of_fields l.item))
