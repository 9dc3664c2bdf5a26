use Rattle.std.proofs.Common.{◌≡◌, List, Option, IfSome, Bor, subst}
use Rattle.ctl_store.specs.Entries.{Entry}
use Rattle.ctl_policy.specs.Priority.{world_of}
use Rattle.ctl_query.specs.Leads.{leads_of}
use Rattle.ctl_query.proofs.LeadNamingLemmas.{all_are_enough}
use Rattle.ctl_query.proofs.reverse_depends.append_all_askers.Goals as goal

pub append_by_atoms-requires-clause-enough : goal.append_by_atoms-requires-clause-enough
append_by_atoms-requires-clause-enough c =
    let IsGiven : Option (Bor (List Entry)) → Type 0 = λ table. IfSome table (λ table. table.now ≡ leads_of (world_of c.args.depending.now.asking.now)) in
    all_are_enough c.args.depending.now.asking.now c.args.asked.now.name.now c.in-Some.table.now (subst IsGiven c.in-Some.is c.requires.leads)
