use Rattle.std.proofs.Common.{rules}
use Rattle.ctl_query.proofs.LeadTableLemmas.{numbered_more}
use Rattle.ctl_query.proofs.lead_table.numbered.Goals as goal

pub loop-place-preserved : goal.loop-place-preserved
loop-place-preserved c =
    let more = numbered_more c.args.leads.now c.loop-place.place c.index-leads-place.result c.loop-place-test.true in
    search (rules, more)
