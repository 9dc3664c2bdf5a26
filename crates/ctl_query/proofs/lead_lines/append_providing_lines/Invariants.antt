use Rattle.std.proofs.Common.{◌≡◌, ◌++◌, flat_map}
use Rattle.ctl_query.specs.ShowPackage.{line_if_providing}
use Rattle.ctl_query.proofs.lead_lines.append_providing_lines.Given as goal

abbrev pub invariant-entries : goal.invariant-entries
invariant-entries l = l.out.items ++ flat_map (line_if_providing l.name l.lead) l.entry-iterator ≡ l.initial.out.items ++ flat_map (line_if_providing l.name l.lead) l.initial.entry-iterator
