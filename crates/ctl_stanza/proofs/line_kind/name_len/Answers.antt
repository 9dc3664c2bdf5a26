use Rattle.std.proofs.Common.{not, sym}
use Rattle.std.proofs.lemmas.Iterator.Adapters.{position_from-zero}
use Rattle.ctl_relation.specs.FieldBytes.{is_field_name_byte}
use Rattle.ctl_stanza.proofs.line_kind.name_len.Goals as goal

pub loop-i-init : goal.loop-i-init
loop-i-init c = sym (position_from-zero (λ b. not (is_field_name_byte b)) c.args.line.now)
