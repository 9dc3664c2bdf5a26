use Rattle.std.proofs.Common.{◌∙◌, ap}
use Rattle.ctl_store.specs.Store.{Held}
use Rattle.ctl_policy.specs.Priority.{world_of}
use Rattle.ctl_query.specs.Packages.{packages_of}
use Rattle.ctl_query.proofs.PackageLemmas.{are_packages}
use Rattle.ctl_query.proofs.asking.Asking.packages.Goals as goal

pub returns : goal.returns
returns c =
    are_packages c.rows_are_classes.ensures (world_of c.self.inside.cache.now.store) _ c.packages.ensures.order c.packages.ensures.members
    ∙ ap (λ (store : Held). packages_of (world_of store)) c.self.view_is
