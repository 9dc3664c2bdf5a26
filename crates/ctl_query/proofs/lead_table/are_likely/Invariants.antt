use Rattle.std.proofs.Common.{◌≡◌, ◌<◌, ℕ, Some}
use Rattle.ctl_store.specs.declared.stanza_key.StanzaKey.{StanzaKey}
use Rattle.ctl_query.specs.Leads.{key_at}
use Rattle.ctl_query.specs.LeadTable.{lent_leads, likely_place}
use Rattle.ctl_query.proofs.lead_table.are_likely.Given as goal

-- each lead so far is the one at the slot of its key
abbrev pub invariant-loop-place : goal.invariant-loop-place
invariant-loop-place l = (i : ℕ) (k : StanzaKey) → i < l.place → key_at (lent_leads l.leads) i ≡ Some k → likely_place k l.likely ≡ i
