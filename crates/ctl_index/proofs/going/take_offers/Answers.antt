use Rattle.std.proofs.Common.{◌≡◌, ◌<◌, List, ℕ, length, ap, ◌∙◌, arith, rules, get_or}
use Rattle.std.proofs.lemmas.List.Sums.{sum_by_more_le}
use Rattle.ctl_store.specs.declared.stanza_key.StanzaKey.{StanzaKey}
use Rattle.ctl_index.specs.declared.keys.NamingAtom.{NamingAtom}
use Rattle.std.proofs.lemmas.Grind.{common_steps}
use Rattle.ctl_index.specs.Inside.TablesCounters.{less_by}
use Rattle.ctl_index.specs.Inside.TablesHeld.{namers_in, number_in, offers_in}
use Rattle.ctl_index.specs.Inside.TablesLeft.{has_offer_at, hits_at}
use Rattle.ctl_index.specs.Inside.TablesOrder.{offer_stanza, others}
use Rattle.ctl_index.specs.Inside.TablesPending.{seen}
use Rattle.ctl_index.specs.Inside.TablesTests.{of_found, offers_tests}
use Rattle.ctl_index.proofs.LeavingLemmas.{filter_twice, less_more, twice_more}
use Rattle.ctl_index.proofs.going.take_offers.Goals as goal

pub loop-key-preserved : goal.loop-key-preserved
loop-key-preserved c =
    let s = c.args.going.now.pending in
    let keys = c.args.keys.now in
    let i = c.loop-key.key-index in
    let d : StanzaKey = record { list = 0; stanza = 0 } in
    let below : i < length keys = omega arith in
    let t = namers_in c.args.tables.now in
    record {
      offers = λ q.
          let old = offers_in c.args.tables.now q in
          twice_more (others offer_stanza c.args.going.now.span) old (filter_twice _ old) (has_offer_at s q) keys i d below (c.in_ok-take_offers_at.ensures.offers q) (c.loop-key.invariant.offers q);
      namers = search rules;
      rows = search rules;
      counts = λ k.
          c.in_ok-take_offers_at.ensures.counts k ∙ (λ j. less_by (hits_at s (c.loop-key.invariant.namers j) k (get_or keys i d)) (c.loop-key.invariant.counts k j))
          ∙ less_more (hits_at s t k) keys i d below (number_in c.args.tables.now k);
      steps = grind (arith, common_steps);
    }

pub returns-in_err-take_offers_at-clause-most : goal.returns-in_err-take_offers_at-clause-most
returns-in_err-take_offers_at-clause-most c =
    let s = c.args.going.now.pending in
    let keys = c.args.keys.now in
    let i = c.loop-key.key-index in
    let d : StanzaKey = record { list = 0; stanza = 0 } in
    let below : i < length keys = omega arith in
    let f : (List ℕ → List NamingAtom) → StanzaKey → ℕ = λ t. of_found (seen s) (offers_tests s t) in
    let t = namers_in c.args.tables.now in
    let one : f (namers_in c.loop-key.tables) (get_or keys i d) ≡ f t (get_or keys i d) = ap (λ (u : List ℕ → List NamingAtom). f u (get_or keys i d)) c.loop-key.invariant.namers in
    omega (arith, c.take_offers_at.ensures.most, one, c.loop-key.invariant.steps, sum_by_more_le (f t) keys i d below)
