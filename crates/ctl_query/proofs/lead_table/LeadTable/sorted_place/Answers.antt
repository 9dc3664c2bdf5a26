use Rattle.std.proofs.Common.{◌≡◌, ◌∙◌, ℕ, List, Option, Some, IfSome, Vec, Global, sym, subst}
use Rattle.ctl_store.specs.Entries.{Entry}
use Rattle.ctl_store.specs.declared.stanza_key.StanzaKey.{StanzaKey}
use Rattle.ctl_query.specs.Leads.{key_at}
use Rattle.ctl_query.specs.LeadTable.{lent_leads, ArePlaces}
use Rattle.ctl_query.proofs.lead_table.LeadTable.sorted_place.Goals as goal

-- a key has one place
pub returns-then-is_place_of-clause-exact : goal.returns-then-is_place_of-clause-exact
returns-then-is_place_of-clause-exact c = λ i at.
    let likely = c.likely_place-likely.result in
    let key = c.args.key in
    let HasPlaces : Option (Vec (StanzaKey × ℕ) Global) → Type 0 = λ places. IfSome places (λ places. ArePlaces (lent_leads c.self.inside.leads.items) places.items) in
    let places : ArePlaces (lent_leads c.self.inside.leads.items) c.in-Some.places.items = subst HasPlaces c.in-Some.is c.self.invariant.1 in
    let seen : key_at c.args.self.now likely ≡ Some key = rw (c.if-is_place_of.true) at c.is_place_of.ensures.its in
    sym (places.there likely key (subst (λ (leads : List Entry). key_at leads likely ≡ Some key) (sym c.self.view_is) seen))
    ∙ places.there i key (subst (λ (leads : List Entry). key_at leads i ≡ Some key) (sym c.self.view_is) at)
