use Rattle.std.proofs.Common.{◌≡◌, ◌++◌, flat_map}
use Rattle.ctl_query.specs.ShowPackage.{entry_line}
use Rattle.ctl_query.proofs.lead_lines.append_entry_lines.Given as goal

abbrev pub invariant-entries : goal.invariant-entries
invariant-entries l = l.out.items ++ flat_map (entry_line l.lead) l.entry-iterator ≡ l.initial.out.items ++ flat_map (entry_line l.lead) l.initial.entry-iterator
