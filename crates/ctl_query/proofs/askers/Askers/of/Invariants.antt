use Rattle.std.proofs.Common.{◌≡◌, map, take}
use Rattle.std.specs.List.{All}
use Rattle.ctl_store.specs.Entries.{Entry}
use Rattle.ctl_query.specs.declared.askers.Told.{Told}
use Rattle.ctl_query.specs.Inside.Askers.{IsTold}
use Rattle.ctl_query.specs.LeadTable.{lent_leads}
use Rattle.ctl_query.proofs.askers.Askers.of.Given as goal

-- the texts so far are those of the leads so far
abbrev pub invariant-loop-place : goal.invariant-loop-place
invariant-loop-place l = record {
  told : All (IsTold l.text.items) l.all.items;
  leads : map (λ (told : Told). told.lead.now) l.all.items ≡ map (λ (e : Entry). e.1) (lent_leads (take l.place l.leads));
}
