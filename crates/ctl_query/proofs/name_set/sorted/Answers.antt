use Rattle.std.proofs.Common.{◌≡◌, sym, subst, arith}
use Rattle.std.proofs.lemmas.Grind.{common_steps}
use Rattle.std.specs.Cmp.Lexicographic.{slice_cmp}
use Rattle.std.specs.List.Sorted.{IsStrictlySortedBy}
use Rattle.std.specs.Ordering.{nat_cmp}
use Rattle.ctl_query.specs.NameSet.{lent_names}
use Rattle.ctl_query.proofs.NameLemmas.{increasing_lent}
use Rattle.ctl_query.proofs.name_set.sorted.Goals as goal

pub returns-clause-order : goal.returns-clause-order
returns-clause-order c =
    let same : lent_names c.set.sorted.items ≡ lent_names c.names.set.keys = grind (arith, common_steps) in
    subst (IsStrictlySortedBy (slice_cmp nat_cmp)) (sym same) (increasing_lent c.names.set.keys c.len-count.ensures.ordered)
