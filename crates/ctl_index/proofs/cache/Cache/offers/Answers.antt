use Rattle.std.proofs.Common.{List, map, ap, sym, subst, ◌∙◌}
use Rattle.ctl_store.specs.Store.{keyed_of}
use Rattle.ctl_index.specs.HeldCache.{HeldCache, standing}
use Rattle.std.specs.List.Sorted.{IsPermutation}
use Rattle.ctl_relation.specs.Parts.{OfferParts}
use Rattle.ctl_store.specs.declared.stanza_key.StanzaKey.{StanzaKey}
use Rattle.ctl_store.specs.Keys.{AreHeld}
use Rattle.ctl_index.specs.declared.keys.OfferKey.{OfferKey}
use Rattle.ctl_index.specs.Offers.{offers_named}
use Rattle.ctl_index.specs.Inside.TablesPending.{AreSeen, in_store}
use Rattle.ctl_index.specs.Inside.TablesViews.{offer_found, AreFound}
use Rattle.ctl_index.proofs.StoreLemmas.{rising_apart, store_seen}
use Rattle.ctl_index.proofs.ViewLemmas.{offers_permuted, offers_found, found_held}
use Rattle.ctl_index.proofs.cache.Cache.offers.Goals as goal

pub invariant_of-result : goal.invariant_of-result
invariant_of-result c =
    let h = c.self.inside.store in
    let fresh = ap (λ w. w.stale) c.self.view_is ∙ c.requires in
    let was = (c.self.invariant fresh).0 in
    let sees : AreSeen (in_store h) (standing h) = store_seen h (rising_apart (keyed_of h).lists c.counts-counts.ensures.order) in
    subst (AreFound h) (sym c.offers.ensures) (offers_found h (standing h) c.self.inside.tables was sees c.args.name.now)

pub returns-clause-offers : goal.returns-clause-offers
returns-clause-offers c =
    let h = c.self.inside.store in
    let fresh = ap (λ w. w.stale) c.self.view_is ∙ c.requires in
    let was = (c.self.invariant fresh).0 in
    let sees : AreSeen (in_store h) (standing h) = store_seen h (rising_apart (keyed_of h).lists c.counts-counts.ensures.order) in
    subst (λ (w : HeldCache). IsPermutation (offers_named c.args.name.now (standing w.store)) (map (offer_found h) c.offers.result.now)) c.self.view_is
    (subst (λ (ks : List OfferKey). IsPermutation (offers_named c.args.name.now (standing h)) (map (offer_found h) ks)) (sym c.offers.ensures) (offers_permuted h (standing h) c.self.inside.tables was sees c.args.name.now))

pub returns-clause-held : goal.returns-clause-held
returns-clause-held c =
    let h = c.self.inside.store in
    let fresh = ap (λ w. w.stale) c.self.view_is ∙ c.requires in
    let was = (c.self.invariant fresh).0 in
    let sees : AreSeen (in_store h) (standing h) = store_seen h (rising_apart (keyed_of h).lists c.counts-counts.ensures.order) in
    subst (λ (w : HeldCache). AreHeld (map (λ (o : StanzaKey × OfferParts). o.0) (map (offer_found h) c.offers.result.now)) (keyed_of w.store).lists) c.self.view_is
    (found_held h c.offers.result.now (subst (AreFound h) (sym c.offers.ensures) (offers_found h (standing h) c.self.inside.tables was sees c.args.name.now)))
