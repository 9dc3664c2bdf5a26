use Rattle.std.proofs.Common.{◌≡◌, true, take}
use Rattle.std.specs.List.{list_all}
use Rattle.ctl_stanza.specs.LineKind.{is_field_name_byte}
use Rattle.ctl_filter.proofs.names.are_field_name_bytes.Given as goal

abbrev pub invariant-loop-byte : goal.invariant-loop-byte
invariant-loop-byte l = list_all is_field_name_byte (take l.byte-index l.bytes) ≡ true
