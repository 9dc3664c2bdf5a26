use Rattle.std.proofs.Common.{ap, bit_or}
use Rattle.std.proofs.lemmas.Nat.{one_shl}
use Rattle.ctl_stanza.proofs.name_slots.with_slot.Goals as goal

pub returns : goal.returns
returns c = ap (bit_or c.args.taken) (one_shl c.args.slot 64 c.requires)
