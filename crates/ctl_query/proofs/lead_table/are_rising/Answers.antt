use Rattle.std.proofs.Common.{arith}
use Rattle.ctl_query.proofs.LeadTableLemmas.{rising_from}
use Rattle.ctl_query.proofs.lead_table.are_rising.Goals as goal

pub returns : goal.returns
returns c = λ is. rising_from c.args.places.now (record { list = 0; stanza = 0 }, 0) (λ k l. c.loop-place.invariant k _ (omega (arith, l, c.loop-place-test.false)))
