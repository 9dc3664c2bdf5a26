use Rattle.std.proofs.Common.{rules, arith}
use Rattle.ctl_query.proofs.LikelyLemmas.{key_within, likely_more}
use Rattle.ctl_query.proofs.lead_table.are_likely.Goals as goal

pub loop-place-preserved : goal.loop-place-preserved
loop-place-preserved c =
    likely_more c.args.leads.now c.args.likely.now c.loop-place.place c.index-leads-place.result c.loop-place-test.true (search rules) c.loop-place.invariant

pub returns : goal.returns
returns c = λ i k at. c.loop-place.invariant i k (let within = key_within c.args.leads.now i k at in omega (arith, within, c.loop-place-test.false)) at
