use Rattle.std.proofs.Common.{◌≡◌, ◌∙◌, ℕ, List, IfOk, ap, subst, map, flat_map}
use Rattle.ctl_policy.specs.Priority.{world_of}
use Rattle.ctl_policy.specs.Rows.{rows_named, newest_first, keys_of_row}
use Rattle.ctl_store.specs.Entries.{Entry}
use Rattle.ctl_query.specs.Leads.{keyed_stanza, leads_of}
use Rattle.ctl_query.specs.LeadTable.{lent_leads}
use Rattle.ctl_query.specs.Packages.{names_known}
use Rattle.ctl_query.proofs.LeadLemmas.{leads_by_keys, leads_of_known}
use Rattle.ctl_query.proofs.lead_table.leads_of.Goals as goal

-- the stanzas of the keys that are kept are the leads of all rows
pub returns-in-Some : goal.returns-in-Some
returns-in-Some c =
    let w = world_of c.args.asking.now in
    let rows = map (λ (name : List ℕ). map keys_of_row (newest_first (rows_named name w.lists))) (names_known w) in
    let are : flat_map (keyed_stanza w) c.in-Some.keys.now ≡ leads_of w = ap (flat_map (keyed_stanza w)) c.in-Some.ensures ∙ leads_by_keys w rows ∙ leads_of_known w in
    subst (λ (leads : List Entry). IfOk c.leads_under.result (λ found. lent_leads found.items ≡ leads)) are c.leads_under.ensures
