use Rattle.std.proofs.Common.{ℕ, List, subst}
use Rattle.std.specs.List.Sorted.{IsPermutation}
use Rattle.ctl_store.specs.declared.stanza_key.StanzaKey.{StanzaKey}
use Rattle.ctl_query.specs.LeadTable.{lent_leads, AreInKeyOrder}
use Rattle.ctl_query.proofs.LeadTableLemmas.{are_places}
use Rattle.ctl_query.proofs.lead_table.places_of.Goals as goal

pub returns : goal.returns
returns c =
    let sorted = c.sort_unstable.new.self.items in
    are_places (lent_leads c.args.leads.now) sorted (subst (λ (ps : List (StanzaKey × ℕ)). IsPermutation ps sorted) c.in_ok-places.ensures c.sort_unstable.ensures.permutation)
    (subst AreInKeyOrder c.deref.ensures.value (c.are_rising.ensures c.if-not-are_rising.false))
