use Rattle.std.proofs.Common.{◌≡◌, ◌++◌, Some, flat_map}
use Rattle.std.specs.List.{AllByRecursion}
use Rattle.ctl_store.specs.Entries.{Entry}
use Rattle.ctl_store.specs.Followed.{under as found_under}
use Rattle.ctl_index.specs.HeldCache.{standing}
use Rattle.ctl_policy.specs.Priority.{world_of}
use Rattle.ctl_query.specs.Unmet.{unmet_lead}
use Rattle.ctl_query.proofs.unmet.append_leads.Given as goal

-- what was written, and the lines of the leads that are left, are what there was and those of all leads
abbrev pub invariant-leads : goal.invariant-leads
invariant-leads l = record {
  found : AllByRecursion (λ (e : Entry). found_under e.0 (standing l.asking) ≡ Some e.1) l.key-iterator;
  text : l.out.items ++ flat_map (λ (e : Entry). unmet_lead (world_of l.asking) l.important e.1) l.key-iterator ≡ l.initial.out.items ++ flat_map (λ (e : Entry). unmet_lead (world_of l.asking) l.important e.1) l.initial.key-iterator;
}
