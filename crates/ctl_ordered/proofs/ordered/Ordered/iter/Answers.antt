use Rattle.std.proofs.Common.{length, ap, arith}
use Rattle.ctl_ordered.specs.Ordered.{entries}
use Rattle.ctl_ordered.proofs.SlotLemmas.{few_entries}
use Rattle.ctl_ordered.proofs.ordered.Ordered.iter.Goals as goal

pub returns-clause-few : goal.returns-clause-few
returns-clause-few g c =
    omega (arith, few_entries c.self.inside.slots.entries, c.as_slice.ensures.fits, ap (λ v. length (entries v)) c.self.view_is)
