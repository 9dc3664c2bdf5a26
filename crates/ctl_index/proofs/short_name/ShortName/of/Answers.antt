-- The name stands over the zeros, and its length in the last place.
use Rattle.std.proofs.Common.{◌++◌, length, set}
use Rattle.ctl_index.proofs.ShortNameLemmas.{copied_held}
use Rattle.ctl_index.proofs.short_name.ShortName.of.Goals as goal

pub invariant_of-result : goal.invariant_of-result
invariant_of-result c =
    copied_held _ c.args.name.now c.if-name-gt-MOST_SHORT.false
    (λ i. set (c.copy_from_slice.ensures.after i ++ c.split_at_mut-front.ensures.back i) 31 (length c.args.name.now))
