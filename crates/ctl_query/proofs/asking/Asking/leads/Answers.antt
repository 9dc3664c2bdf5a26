use Rattle.std.proofs.Common.{List, Some, ◌≡◌, ◌∙◌, flat_map, sym, subst}
use Rattle.std.specs.List.{AllByRecursion}
use Rattle.ctl_store.specs.Entries.{Entry}
use Rattle.ctl_store.specs.Followed.{under}
use Rattle.ctl_store.specs.Store.{keyed_of}
use Rattle.ctl_index.specs.HeldCache.{standing}
use Rattle.ctl_policy.specs.Priority.{world_of}
use Rattle.ctl_query.specs.Leads.{keyed_lead, leads_named}
use Rattle.ctl_query.specs.Packages.{rows_of}
use Rattle.ctl_query.proofs.EntryLemmas.{each_under}
use Rattle.ctl_query.proofs.LeadLemmas.{leads_of_rows_at}
use Rattle.ctl_query.proofs.asking.Asking.leads.Goals as goal

pub returns-clause-leads : goal.returns-clause-leads
returns-clause-leads c = c.new.ensures ∙ (λ i. flat_map (keyed_lead (world_of (c.store.ensures i))) (c.rows.ensures.rows i))

pub returns-clause-found : goal.returns-clause-found
returns-clause-found c =
    let store = c.args.self.now in
    let world = world_of store in
    subst (λ (es : List Entry). AllByRecursion (λ (e : Entry). under e.0 (standing store) ≡ Some e.1) es) (sym (returns-clause-leads c))
    (each_under (keyed_of store).lists (leads_named world c.args.name.now) (leads_of_rows_at world (rows_of world c.args.name.now)))
