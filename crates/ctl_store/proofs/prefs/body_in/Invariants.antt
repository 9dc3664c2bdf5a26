use Rattle.std.proofs.Common.{◌≡◌}
use Rattle.ctl_stanza.specs.Records.{parts_of_fields}
use Rattle.ctl_store.specs.Prefs.{body_in}
use Rattle.ctl_store.proofs.prefs.body_in.Given as goal

abbrev pub invariant-loop-field : goal.invariant-loop-field
invariant-loop-field l =
    (goal.iterator-loop-field).can_next l.field-iterator ×
    (goal.iterator-loop-field).is_finite l.field-iterator × (body_in l.name l.field-iterator ≡ body_in l.name (parts_of_fields l.item))
