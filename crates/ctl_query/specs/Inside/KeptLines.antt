-- The lines of a field that `depends` keeps in mind.
use Rattle.std.specs.Prelude.{ℕ, List}
use Rattle.std.specs.BTreeMap.{values}
use Rattle.std.specs.List.{All}
use Rattle.ctl_policy.specs.Priority.{world_of}
use Rattle.ctl_query.specs.declared.depends.FieldLines.{FieldLines}
use Rattle.ctl_query.specs.Inside.Repeats.{IsWritten}

-- they stand in the text
abbrev pub AreWritten : FieldLines → List ℕ → Type 0
AreWritten lines text =
    All (IsWritten (world_of lines.depending.now.asking.now) lines.depending.now.options.installed lines.field text) (values lines.kept)
