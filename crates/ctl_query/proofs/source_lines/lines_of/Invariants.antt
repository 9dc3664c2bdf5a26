use Rattle.std.proofs.Common.{◌≡◌, ◌++◌, map}
use Rattle.ctl_policy.specs.Priority.{world_of}
use Rattle.ctl_query.specs.Inside.SourceLines.{lent_lines, with_line}
use Rattle.ctl_query.proofs.source_lines.lines_of.Given as goal

-- the lines so far and those of the lists that are left are those of all lists
abbrev pub invariant-lists : goal.invariant-lists
invariant-lists l = lent_lines l.lines.items ++ map (with_line (world_of l.store)) (map (λ shown. shown.0) l.list-iterator)
    ≡ lent_lines l.initial.lines.items ++ map (with_line (world_of l.store)) (map (λ shown. shown.0) l.initial.list-iterator)
