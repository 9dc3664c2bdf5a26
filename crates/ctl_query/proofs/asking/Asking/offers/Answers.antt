use Rattle.std.proofs.Common.{subst, map}
use Rattle.ctl_relation.specs.Parts.{OfferParts}
use Rattle.ctl_store.specs.declared.stanza_key.StanzaKey.{StanzaKey}
use Rattle.ctl_store.specs.Store.{Held, keyed_of}
use Rattle.ctl_store.specs.Keys.{AreHeld}
use Rattle.ctl_query.proofs.asking.Asking.offers.Goals as goal

pub returns-clause-held : goal.returns-clause-held
returns-clause-held c = subst (λ (store : Held). AreHeld (map (λ (offer : StanzaKey × OfferParts). offer.0) c.offers.result) (keyed_of store).lists) c.self.view_is c.offers.ensures.held
