use Rattle.std.proofs.Common.{◌≡◌, ◌++◌, take, flat_map}
use Rattle.ctl_policy.specs.Priority.{world_of}
use Rattle.ctl_query.specs.Inside.SourceLines.{lent_lines, line_if_source}
use Rattle.ctl_query.proofs.source_lines.append_lines.Given as goal

-- what was written, are the lines of the lists so far
abbrev pub invariant-loop-line : goal.invariant-loop-line
invariant-loop-line l = l.out.items ≡ l.initial.out.items ++ flat_map (line_if_source (world_of l.store) l.row) (lent_lines (take l.line-index l.lines))
