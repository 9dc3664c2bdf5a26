use Rattle.std.proofs.Common.{◌≡◌, ◌++◌, map, flat_map}
use Rattle.ctl_policy.specs.Priority.{world_of}
use Rattle.ctl_query.specs.Policy.{list_line}
use Rattle.ctl_query.proofs.policy.append_lists.Given as goal

-- what was written, and the lists that are left, are what there was and all lists
abbrev pub invariant-lists : goal.invariant-lists
invariant-lists l = l.out.items ++ flat_map (list_line (world_of l.store)) (map (λ shown. shown.0) l.list-iterator) ≡ l.initial.out.items ++ flat_map (list_line (world_of l.store)) (map (λ shown. shown.0) l.initial.list-iterator)
