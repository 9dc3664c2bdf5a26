use Rattle.std.proofs.Common.{◌≡◌, ℕ, suc, List, cond, ap, sym, ◌∙◌, ◌+◌, ◌<◌, length, take, drop, option_map, arith, get_or, rules}
use Rattle.std.specs.List.{sum_by}
use Rattle.std.specs.Str.{bytes_eq}
use Rattle.std.proofs.lemmas.List.{at_drop_more}
use Rattle.std.proofs.lemmas.List.Sums.{sum_by-cons, sum_by_more, sum_by_more_le}
use Rattle.ctl_relation.specs.Parts.{OfferParts}
use Rattle.ctl_index.specs.declared.keys.NamingAtom.{NamingAtom}
use Rattle.ctl_index.specs.declared.keys.OfferKey.{OfferKey}
use Rattle.ctl_index.specs.Inside.TablesHeld.{namers_in, number_in}
use Rattle.ctl_index.specs.Inside.TablesCounters.{counted_up}
use Rattle.ctl_index.specs.Inside.TablesIndexed.{keyed_offers_from, offer_named}
use Rattle.ctl_index.specs.Inside.TablesLoaded.{all_hits}
use Rattle.ctl_index.specs.Inside.TablesPending.{tested}
use Rattle.ctl_index.specs.Inside.TablesTests.{all_tested, offer_hits}
use Rattle.ctl_index.specs.Work.{more_by}
use Rattle.ctl_index.proofs.CounterLemmas.{counted_up_twice, more_by_twice}
use Rattle.ctl_index.proofs.coming.put_offers_of.Goals as goal

pub loop-i-preserved : goal.loop-i-preserved
loop-i-preserved c =
    let s = c.args.pending.now in
    let t = namers_in c.args.tables.now in
    let os = c.args.offers.now in
    let i = c.loop-i.i in
    let o = c.index-offers-i.result in
    let below : i < length os = omega arith in
    let item : o ≡ get_or os i o = search rules in
    let key : OfferKey = record { stanza = c.new.result; place = i } in
    record {
      offers = λ q f.
          let F : OfferKey × OfferParts → ℕ = offer_named q f in
          let z : suc i ≡ i + 1 = omega arith in
          let left : sum_by F (keyed_offers_from c.args.key i (drop i os)) ≡ cond (bytes_eq o.name q) (f key) 0 + sum_by F (keyed_offers_from c.args.key (i + 1) (drop (i + 1) os)) =
          at_drop_more (λ ps. sum_by F (keyed_offers_from c.args.key i ps)) os i o below
          ∙ sum_by-cons F (record { stanza = c.args.key; place = i }, get_or os i o) (keyed_offers_from c.args.key (suc i) (drop (i + 1) os))
          ∙ (λ j. F (record { stanza = sym c.new.ensures j; place = i }, sym item j) + sum_by F (keyed_offers_from c.args.key (z j) (drop (i + 1) os))) in
          omega (arith, c.in_ok-put_offer.ensures.offers q f, left, c.loop-i.invariant.offers q f);
      namers = (λ j q. c.in_ok-put_offer.ensures.namers q j) ∙ c.loop-i.invariant.namers;
      rows = (λ j q. c.in_ok-put_offer.ensures.rows q j) ∙ c.loop-i.invariant.rows;
      counts = λ k.
          let was = number_in c.args.tables.now k in
          c.in_ok-put_offer.ensures.counts k
          ∙ (λ j. option_map (counted_up (offer_hits s (c.loop-i.invariant.namers j) (item j) k)) (c.loop-i.invariant.counts k j))
          ∙ counted_up_twice (all_hits s t (take i os) k) (offer_hits s t (get_or os i o) k) was
          ∙ ap (λ n. option_map (counted_up n) was) (sym (sum_by_more (λ (p : OfferParts). offer_hits s t p k) os i o below));
      steps =
          c.in_ok-put_offer.ensures.steps ∙ ap (λ (u : List ℕ → List NamingAtom). more_by (sum_by (tested s o.name) (u o.name)) c.loop-i.tables.steps) c.loop-i.invariant.namers
          ∙ ap (λ (p : OfferParts). more_by (sum_by (tested s p.name) (t p.name)) c.loop-i.tables.steps) item ∙ ap (more_by _) c.loop-i.invariant.steps ∙ more_by_twice (all_tested s t (take i os)) _ c.args.tables.now.steps
          ∙ ap (λ n. more_by n c.args.tables.now.steps) (sym (sum_by_more (λ (p : OfferParts). sum_by (tested s p.name) (t p.name)) os i o below));
    }

pub returns-in_err-put_offer-clause-most : goal.returns-in_err-put_offer-clause-most
returns-in_err-put_offer-clause-most c =
    let s = c.args.pending.now in
    let t = namers_in c.args.tables.now in
    let os = c.args.offers.now in
    let i = c.loop-i.i in
    let o = c.index-offers-i.result in
    let below : i < length os = omega arith in
    let item : o ≡ get_or os i o = search rules in
    let one : sum_by (tested s o.name) (namers_in c.loop-i.tables o.name) ≡ sum_by (tested s (get_or os i o).name) (t (get_or os i o).name) =
    ap (λ (u : List ℕ → List NamingAtom). sum_by (tested s o.name) (u o.name)) c.loop-i.invariant.namers ∙ ap (λ (p : OfferParts). sum_by (tested s p.name) (t p.name)) item in
    omega (arith, c.put_offer.ensures.most, one, c.loop-i.invariant.steps, sum_by_more_le (λ (p : OfferParts). sum_by (tested s p.name) (t p.name)) os i o below)
