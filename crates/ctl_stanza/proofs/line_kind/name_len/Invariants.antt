use Rattle.std.proofs.Common.{◌≡◌, not, drop, position}
use Rattle.std.specs.List.{position_from}
use Rattle.ctl_relation.specs.FieldBytes.{is_field_name_byte}
use Rattle.ctl_stanza.proofs.line_kind.name_len.Given as goal

-- the byte is sought among those that are left
abbrev pub invariant-loop-i : goal.invariant-loop-i
invariant-loop-i l = position_from (λ b. not (is_field_name_byte b)) l.i (drop l.i l.line) ≡ position (λ b. not (is_field_name_byte b)) l.line
