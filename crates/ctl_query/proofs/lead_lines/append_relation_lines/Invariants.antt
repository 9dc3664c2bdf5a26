use Rattle.std.proofs.Common.{◌≡◌, ◌++◌, take, flat_map}
use Rattle.ctl_query.specs.ShowPackage.{relations_in}
use Rattle.ctl_query.proofs.lead_lines.append_relation_lines.Given as goal

abbrev pub invariant-loop-field : goal.invariant-loop-field
invariant-loop-field l = l.out.items ≡ l.initial.out.items ++ flat_map (relations_in l.lead) (take l.field-index l.fields)
