use Rattle.std.proofs.Common.{arith, rules}
use Rattle.std.proofs.lemmas.Grind.{common_steps}
use Rattle.ctl_query.proofs.AskedLemmas.{looked_up_more, names_more}
use Rattle.ctl_query.proofs.asking.look_up.Goals as goal

pub loop-name-preserved : goal.loop-name-preserved
loop-name-preserved c =
    let more = names_more c.loop-name.asked.items c.asked_of.result in
    let all = looked_up_more c.args.asking.now c.loop-name.asked.items c.asked_of.result c.loop-name.invariant.1 c.asked_of.ensures.looked_up in
    (grind (arith, common_steps, more), search (rules, all))
