use Rattle.std.proofs.Common.{[], ◌≡◌, ◌+◌, ℕ, List, length, nat_eq, ◌&&◌, not, cond, option_map, ap, sym, subst, ◌∙◌}
use Rattle.std.specs.List.{sum_by}
use Rattle.std.specs.Str.{bytes_eq}
use Rattle.ctl_index.specs.Inside.TablesByName.{at_name}
use Rattle.ctl_index.specs.declared.keys.NamingAtom.{NamingAtom}
use Rattle.ctl_index.specs.declared.keys.ClauseKey.{ClauseKey}
use Rattle.ctl_index.specs.declared.keys.OfferKey.{OfferKey}
use Rattle.ctl_index.specs.declared.named.Named.{Named}
use Rattle.ctl_index.specs.Clauses.{number_among}
use Rattle.std.specs.Option.{option_map_or}
use Rattle.ctl_index.specs.Inside.TablesByName.{own_under, named_own, offers_under, namers_under, named_offers, named_namers, no_rows, is_bare}
use Rattle.ctl_index.specs.Inside.TablesCounters.{counted_up}
use Rattle.ctl_index.specs.Inside.TablesPending.{hit}
use Rattle.ctl_index.specs.Inside.TablesOrder.{offer_stanza, put_in_order}
use Rattle.ctl_index.proofs.NameLemmas.{on_some, on_ok_map, first_there, none_more, changed, unchanged, part-found, used_written, used_found, used_more}
use Rattle.ctl_index.proofs.SumLemmas.{sum-either}
use Rattle.ctl_index.proofs.name_table.NameTable.put_offer.Goals as goal

pub invariant_of-self : goal.invariant_of-self
invariant_of-self c =
    let m = c.args.self.now.map in
    let v = c.in-Some.named.now in
    let w : Named = record { offers = c.put.new.self; namers = v.namers; own = v.own } in
    record {
      used = used_written c.name.result.now m (c.get_mut.follows.lender w) w (on_some c.in-Some.is (c.get_mut.follows.holds w))
          (ap (λ (os : List OfferKey). not ((nat_eq (length os) 0 && nat_eq (length (named_namers v)) 0) && is_bare (named_own v))) c.in_err-put-in-Some.ensures.err ∙ used_found m c.name.result.now v c.in-Some.ensures.value c.args.self.now.used) c.args.self.now.used;
    }

pub invariant_of-self-in-Some : goal.invariant_of-self-in-Some
invariant_of-self-in-Some c =
    let m = c.args.self.now.map in
    let v = c.in-Some.named.now in
    let w : Named = record { offers = c.put.new.self; namers = v.namers; own = v.own } in
    record {
      used = used_written c.name.result.now m (c.get_mut.follows.lender w) w (on_some c.in-Some.is (c.get_mut.follows.holds w))
          (ap (λ (os : List OfferKey). not ((nat_eq (length os) 0 && nat_eq (length (named_namers v)) 0) && is_bare (named_own v))) c.in_ok-put-in-Some.ensures.ok ∙ used_more offer_stanza (named_offers v) c.args.coming.key (nat_eq (length (named_namers v)) 0) (is_bare (named_own v))) c.args.self.now.used;
    }

pub returns-in_ok-put-in-Some-clause-offers : goal.returns-in_ok-put-in-Some-clause-offers
returns-in_ok-put-in-Some-clause-offers c =
    let m = c.args.self.now.map in
    let v = c.in-Some.named.now in
    let w : Named = record { offers = c.put.new.self; namers = v.namers; own = v.own } in
    let f : List OfferKey → List OfferKey = λ l. put_in_order offer_stanza c.args.coming.key l in
    λ q g.
    ap (sum_by g) (changed named_offers [] c.name.result.now m (c.get_mut.follows.lender w) w f (on_some c.in-Some.is (c.get_mut.follows.holds w)) (c.in_ok-put-in-Some.ensures.ok ∙ ap f (part-found named_offers [] c.name.result.now m _ c.in-Some.ensures.value)) q
    ∙ ap (λ b. cond (bytes_eq b q) (f (offers_under m q)) (offers_under m q)) c.name.ensures)
    ∙ sum-either offer_stanza g (bytes_eq c.args.coming.offer.now.name q) (offers_under m q) c.args.coming.key

pub returns-in_ok-put-in-Some-clause-namers : goal.returns-in_ok-put-in-Some-clause-namers
returns-in_ok-put-in-Some-clause-namers c =
    let m = c.args.self.now.map in
    let v = c.in-Some.named.now in
    let w : Named = record { offers = c.put.new.self; namers = v.namers; own = v.own } in
    unchanged named_namers [] c.name.result.now m (c.get_mut.follows.lender w) w (on_some c.in-Some.is (c.get_mut.follows.holds w)) (part-found named_namers [] c.name.result.now m _ c.in-Some.ensures.value)

pub returns-in_ok-put-in-Some-clause-counts : goal.returns-in_ok-put-in-Some-clause-counts
returns-in_ok-put-in-Some-clause-counts c =
    let m = c.args.self.now.map in
    let same : c.as_slice.result.now ≡ namers_under m c.args.coming.offer.now.name = c.as_slice.ensures ∙ part-found named_namers [] c.name.result.now m _ c.in-Some.ensures.value ∙ ap (namers_under m) c.name.ensures in
    subst (λ (xs : List NamingAtom). (k : ClauseKey) → number_among c.raise_clauses.new.counters.numbers k ≡ option_map (counted_up (sum_by (hit c.args.pending.now c.args.coming.offer.now k) xs)) (number_among c.args.counters.now.numbers k)) same c.raise_clauses.ensures.counts

pub returns-in_ok-put-in-Some-clause-rows : goal.returns-in_ok-put-in-Some-clause-rows
returns-in_ok-put-in-Some-clause-rows c =
    let m = c.args.self.now.map in
    let v = c.in-Some.named.now in
    let w : Named = record { offers = c.put.new.self; namers = v.namers; own = v.own } in
    unchanged named_own no_rows c.name.result.now m (c.get_mut.follows.lender w) w (on_some c.in-Some.is (c.get_mut.follows.holds w)) (part-found named_own no_rows c.name.result.now m _ c.in-Some.ensures.value)

pub returns-in-None-clause-offers : goal.returns-in-None-clause-offers
returns-in-None-clause-offers c =
    let m = c.args.self.now.map in
    let bs = c.name-in-None.result.now in
    let same : (q : List ℕ) → offers_under c.get_mut.follows.lender-at-none q ≡ offers_under m q = λ q. ap (λ o. option_map_or named_offers o []) (c.get_mut.follows.holds-at-none q) in
    on_ok_map c.insert.result (λ h q g.
    ap (sum_by g) (h q ∙ ap (cond (bytes_eq bs q) c.of_one.result) (same q))
    ∙ first_there named_offers bs m m c.of_one.result c.args.coming.key g c.of_one.ensures (c.in-None.ensures.value ∙ ap (at_name m) (c.name.ensures ∙ sym c.name-in-None.ensures)) (λ r i. at_name m r) q
    ∙ ap (λ b. sum_by g (offers_under m q) + cond (bytes_eq b q) (g c.args.coming.key) 0) c.name-in-None.ensures) c.insert.ensures.offers

pub returns-in-None-clause-rows : goal.returns-in-None-clause-rows
returns-in-None-clause-rows c =
    let m = c.args.self.now.map in
    let bs = c.name-in-None.result.now in
    let same : (q : List ℕ) → own_under c.get_mut.follows.lender-at-none q ≡ own_under m q = λ q. ap (λ o. option_map_or named_own o no_rows) (c.get_mut.follows.holds-at-none q) in
    on_ok_map c.insert.result (λ h q.
    h q ∙ ap (cond (bytes_eq bs q) c.none.result) (same q)
    ∙ none_more named_own no_rows bs m m c.none.result c.none.ensures (c.in-None.ensures.value ∙ ap (at_name m) (c.name.ensures ∙ sym c.name-in-None.ensures)) (λ r i. at_name m r) q) c.insert.ensures.rows
