use Rattle.std.proofs.Common.{◌≡◌, ◌++◌, flat_map}
use Rattle.ctl_policy.specs.Priority.{world_of}
use Rattle.ctl_query.specs.Policy.{source_line}
use Rattle.ctl_query.proofs.source_lines.append_sources.Given as goal

-- what was written, and the sources that are left, are what there was and all sources
abbrev pub invariant-lists : goal.invariant-lists
invariant-lists l = l.out.items ++ flat_map (source_line (world_of l.store)) l.list-iterator ≡ l.initial.out.items ++ flat_map (source_line (world_of l.store)) l.initial.list-iterator
