use Rattle.std.proofs.Common.{◌≡◌, ◌++◌, flat_map}
use Rattle.ctl_store.specs.Entries.{Entry}
use Rattle.ctl_query.specs.ShowPackage.{providing_lines}
use Rattle.ctl_query.proofs.show_package.append_providing_leads.Given as goal

-- what was written, and the lines of the leads that are left, are what there was and those of all leads
abbrev pub invariant-leads : goal.invariant-leads
invariant-leads l = l.out.items ++ flat_map (λ (e : Entry). providing_lines l.name e.1) l.lead-iterator ≡ l.initial.out.items ++ flat_map (λ (e : Entry). providing_lines l.name e.1) l.initial.lead-iterator
