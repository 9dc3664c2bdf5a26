use Rattle.std.proofs.Common.{◌≡◌}
use Rattle.ctl_policy.specs.Priority.{world_of}
use Rattle.ctl_query.specs.NameSet.{lent_names}
use Rattle.ctl_query.specs.Depends.{names_kept}
use Rattle.ctl_query.proofs.providers.is_any_kept.Given as goal

-- none of those that were passed is kept
abbrev pub invariant-names : goal.invariant-names
invariant-names l = names_kept (world_of l.asking) l.installed (lent_names l.name-iterator) ≡ names_kept (world_of l.asking) l.installed (lent_names l.initial.name-iterator)
