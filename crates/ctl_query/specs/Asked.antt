-- What the code has read of the words of a query.
use Rattle.ctl_query.specs.declared.query.AskedRow.{AskedRow as HeldRow}
use Rattle.ctl_query.specs.Show.{AskedRow}

abbrev pub asked_row : HeldRow → AskedRow
asked_row asked = record { name = asked.name; version = asked.version }
