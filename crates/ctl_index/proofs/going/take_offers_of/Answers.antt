use Rattle.std.proofs.Common.{◌≡◌, ℕ, List, cond, ap, sym, ◌∙◌, ◌<◌, length, take, arith, get_or, rules}
use Rattle.std.specs.List.{sum_by}
use Rattle.std.proofs.lemmas.List.Sums.{sum_by_more, sum_by_more_le}
use Rattle.ctl_relation.specs.Parts.{OfferParts}
use Rattle.ctl_index.specs.declared.keys.NamingAtom.{NamingAtom}
use Rattle.ctl_index.specs.Offers.{is_offered}
use Rattle.ctl_index.specs.Inside.TablesCounters.{less_by}
use Rattle.ctl_index.specs.Inside.TablesHeld.{offers_in, namers_in, number_in}
use Rattle.ctl_index.specs.Inside.TablesPending.{tested}
use Rattle.ctl_index.specs.Inside.TablesOrder.{others, offer_stanza}
use Rattle.ctl_index.specs.Inside.TablesTests.{all_tested, offer_hits}
use Rattle.ctl_index.specs.Work.{more_by}
use Rattle.ctl_index.proofs.CounterLemmas.{more_by_twice}
use Rattle.ctl_index.proofs.LeavingLemmas.{filter_twice, less_more, twice_more}
use Rattle.ctl_index.proofs.going.take_offers_of.Goals as goal

pub loop-offer-preserved : goal.loop-offer-preserved
loop-offer-preserved c =
    let s = c.args.going.now.pending in
    let t = namers_in c.args.tables.now in
    let os = c.args.offers.now in
    let i = c.loop-offer.offer-index in
    let o = c.offer-item.result in
    let below : i < length os = omega arith in
    let item : o ≡ get_or os i o = search rules in
    record {
      offers = λ q.
          let old = offers_in c.args.tables.now q in
          let left = others offer_stanza c.args.going.now.span in
          let now = offers_in c.loop-offer.tables q in
          twice_more left old (filter_twice _ old) (is_offered q) os i o below (c.in_ok-take_offer.ensures.offers q ∙ ap (λ (p : OfferParts). cond (is_offered q p) (left now) now) item) (c.loop-offer.invariant.offers q);
      namers = (λ j q. c.in_ok-take_offer.ensures.namers q j) ∙ c.loop-offer.invariant.namers;
      rows = (λ j q. c.in_ok-take_offer.ensures.rows q j) ∙ c.loop-offer.invariant.rows;
      counts = λ k.
          c.in_ok-take_offer.ensures.counts k ∙ (λ j. less_by (offer_hits s (c.loop-offer.invariant.namers j) (item j) k) (c.loop-offer.invariant.counts k j))
          ∙ less_more (λ (p : OfferParts). offer_hits s t p k) os i o below (number_in c.args.tables.now k);
      steps =
          c.in_ok-take_offer.ensures.steps ∙ ap (λ (u : List ℕ → List NamingAtom). more_by (sum_by (tested s o.name) (u o.name)) c.loop-offer.tables.steps) c.loop-offer.invariant.namers
          ∙ ap (λ (p : OfferParts). more_by (sum_by (tested s p.name) (t p.name)) c.loop-offer.tables.steps) item ∙ ap (more_by _) c.loop-offer.invariant.steps ∙ more_by_twice (all_tested s t (take i os)) _ c.args.tables.now.steps
          ∙ ap (λ n. more_by n c.args.tables.now.steps) (sym (sum_by_more (λ (p : OfferParts). sum_by (tested s p.name) (t p.name)) os i o below));
    }

pub returns-in_err-take_offer-clause-most : goal.returns-in_err-take_offer-clause-most
returns-in_err-take_offer-clause-most c =
    let s = c.args.going.now.pending in
    let t = namers_in c.args.tables.now in
    let os = c.args.offers.now in
    let i = c.loop-offer.offer-index in
    let o = c.offer-item.result in
    let below : i < length os = omega arith in
    let item : o ≡ get_or os i o = search rules in
    let one : sum_by (tested s o.name) (namers_in c.loop-offer.tables o.name) ≡ sum_by (tested s (get_or os i o).name) (t (get_or os i o).name) =
    ap (λ (u : List ℕ → List NamingAtom). sum_by (tested s o.name) (u o.name)) c.loop-offer.invariant.namers ∙ ap (λ (p : OfferParts). sum_by (tested s p.name) (t p.name)) item in
    omega (arith, c.take_offer.ensures.most, one, c.loop-offer.invariant.steps, sum_by_more_le (λ (p : OfferParts). sum_by (tested s p.name) (t p.name)) os i o below)
