use Rattle.std.proofs.Common.{ap, ◌==◌}
use Rattle.std.proofs.lemmas.Nat.Bits.{shr_and_one}
use Rattle.ctl_stanza.proofs.name_slots.has_slot.Goals as goal

pub returns : goal.returns
returns c = ap (λ bit. bit == 1) (shr_and_one c.args.taken c.args.slot)
