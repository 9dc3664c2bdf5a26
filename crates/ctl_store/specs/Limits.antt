-- The limits of a store.
use Rattle.std.specs.Prelude.{ℕ, min}
use Rattle.ctl_store.specs.declared.limits.Limits.{Limits}

-- no store holds more stanzas, or accepts more edits
abbrev pub most : ℕ
most = 4294967295

-- of a limit that is handed in and the one above the smaller counts
abbrev pub limits_that_count : Limits → Limits
limits_that_count limits = record { stanzas = min limits.stanzas most; edits = min limits.edits most }
