use Rattle.std.proofs.Common.{◌≡◌, ◌++◌, flat_map}
use Rattle.ctl_policy.specs.Priority.{world_of}
use Rattle.ctl_query.specs.NameSet.{lent_names}
use Rattle.ctl_query.specs.Depends.{names_kept, provider_line}
use Rattle.ctl_query.proofs.providers.append_providers.Given as goal

-- what was written, and the names that are left, are what there was and all of them
abbrev pub invariant-names : goal.invariant-names
invariant-names l = l.out.items ++ flat_map provider_line (names_kept (world_of l.asking) l.installed (lent_names l.name-iterator))
    ≡ l.initial.out.items ++ flat_map provider_line (names_kept (world_of l.asking) l.installed (lent_names l.initial.name-iterator))
