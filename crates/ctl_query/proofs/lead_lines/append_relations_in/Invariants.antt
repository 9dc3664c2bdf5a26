use Rattle.std.proofs.Common.{◌≡◌, ◌++◌, flat_map}
use Rattle.ctl_query.specs.ShowPackage.{relation_line}
use Rattle.ctl_query.proofs.lead_lines.append_relations_in.Given as goal

abbrev pub invariant-groups : goal.invariant-groups
invariant-groups l = l.out.items ++ flat_map (relation_line l.lead l.field) l.group-iterator ≡ l.initial.out.items ++ flat_map (relation_line l.lead l.field) l.initial.group-iterator
