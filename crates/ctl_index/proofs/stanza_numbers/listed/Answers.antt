use Rattle.std.proofs.Common.{◌≡◌, rules, sym, subst}
use Rattle.ctl_index.specs.Inside.ClauseNumbers.{AreInPlace}
use Rattle.ctl_index.proofs.stanza_numbers.listed.Goals as goal

pub invariant_of-result : goal.invariant_of-result
invariant_of-result c =
    let all : c.loop-place.clauses.items ≡ c.args.all.now.entries = search rules in
    subst AreInPlace (sym all) c.len.ensures.ordered
