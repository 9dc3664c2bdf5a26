use Rattle.std.proofs.Common.{◌≡◌, ℕ, [], List, Some, None, cond, ap, sym, subst, ◌∙◌, arith}
use Rattle.std.specs.List.{sum_by}
use Rattle.std.specs.Str.{bytes_eq}
use Rattle.ctl_index.specs.declared.keys.NamingAtom.{NamingAtom}
use Rattle.std.proofs.lemmas.Grind.{common_steps}
use Rattle.ctl_index.specs.declared.named.Named.{Named}
use Rattle.ctl_index.specs.Clauses.{number_among}
use Rattle.ctl_index.specs.Inside.TablesByName.{IsSetAt, own_under, named_own, offers_under, namers_under, named_offers, named_namers, no_rows}
use Rattle.ctl_index.specs.Inside.TablesCounters.{less_by}
use Rattle.ctl_index.specs.Inside.TablesPending.{hit}
use Rattle.ctl_index.specs.Inside.TablesOrder.{others, offer_stanza}
use Rattle.ctl_index.proofs.NameLemmas.{on_some, changed, unchanged, replaced, part-found, used_written, used_found, used_replaced, nothing_left, same_either}
use Rattle.ctl_index.proofs.name_table.NameTable.take_offer.Goals as goal

pub invariant_of-self-in-Break-1 : goal.invariant_of-self-in-Break-1
invariant_of-self-in-Break-1 c =
    let m = c.args.self.now.map in
    let v = c.in-Some.named.now in
    record { used = used_written c.name.result.now m (c.get_mut.follows.lender v) v (on_some c.in-Some.is (c.get_mut.follows.holds v)) (used_found m c.name.result.now v c.in-Some.ensures.value c.args.self.now.used) c.args.self.now.used }

pub invariant_of-self-then-not-is_used : goal.invariant_of-self-then-not-is_used
invariant_of-self-then-not-is_used c =
    let m = c.args.self.now.map in
    let v = c.in-Some.named.now in
    let w : Named = record { offers = c.take.new.self; namers = v.namers; own = v.own } in
    let bs = c.name.result.now in
    let n = c.get_mut.follows.lender w in
    let writes : IsSetAt bs m n (Some w) = on_some c.in-Some.is (c.get_mut.follows.holds w) in
    let removes : IsSetAt bs n c.remove.new.self None = subst (λ (b : List ℕ). IsSetAt b n c.remove.new.self None) (c.name-then-not-is_used.ensures ∙ sym c.name.ensures) c.remove.ensures in
    record { used = used_replaced bs m n c.remove.new.self w writes removes c.args.self.now.used }

pub invariant_of-self-else-not-is_used : goal.invariant_of-self-else-not-is_used
invariant_of-self-else-not-is_used c =
    let m = c.args.self.now.map in
    let v = c.in-Some.named.now in
    let w : Named = record { offers = c.take.new.self; namers = v.namers; own = v.own } in
    let bs = c.name.result.now in
    let n = c.get_mut.follows.lender w in
    let writes : IsSetAt bs m n (Some w) = on_some c.in-Some.is (c.get_mut.follows.holds w) in
    record { used = used_written bs m n w writes (sym c.is_used.ensures ∙ c.if-not-is_used.false) c.args.self.now.used }

pub returns-then-not-is_used : goal.returns-then-not-is_used
returns-then-not-is_used c =
    let m = c.args.self.now.map in
    let v = c.in-Some.named.now in
    let w : Named = record { offers = c.take.new.self; namers = v.namers; own = v.own } in
    let bs = c.name.result.now in
    let n = c.get_mut.follows.lender w in
    let writes : IsSetAt bs m n (Some w) = on_some c.in-Some.is (c.get_mut.follows.holds w) in
    let removes : IsSetAt bs n c.remove.new.self None = subst (λ (b : List ℕ). IsSetAt b n c.remove.new.self None) (c.name-then-not-is_used.ensures ∙ sym c.name.ensures) c.remove.ensures in
    let left = nothing_left w (sym c.is_used.ensures ∙ c.if-not-is_used.true) in
    let found = c.in-Some.ensures.value in
    let stay = others offer_stanza c.args.going.now.span in
    record {
      offers = λ q.
          replaced named_offers [] bs m n c.remove.new.self w stay writes removes (sym (c.take.ensures ∙ ap stay (part-found named_offers [] bs m _ found)) ∙ left.offers) q
          ∙ ap (λ b. cond (bytes_eq b q) (stay (offers_under m q)) (offers_under m q)) c.name.ensures;
      namers = λ q. replaced named_namers [] bs m n c.remove.new.self w (λ l. l) writes removes (sym (part-found named_namers [] bs m _ found) ∙ left.namers) q ∙ same_either (bytes_eq bs q) (namers_under m q);
      rows = λ q. replaced named_own no_rows bs m n c.remove.new.self w (λ l. l) writes removes (sym (part-found named_own no_rows bs m _ found) ∙ left.own) q ∙ same_either (bytes_eq bs q) (own_under m q);
      counts = λ k.
          let same : c.as_slice.result.now ≡ namers_under m c.args.offer.now.name = c.as_slice.ensures ∙ part-found named_namers [] bs m _ found ∙ ap (namers_under m) c.name.ensures in
          c.in_ok-lower_clauses.ensures.counts k ∙ ap (λ (xs : List NamingAtom). less_by (sum_by (hit c.args.going.now.pending c.args.offer.now k) xs) (number_among c.args.counters.now.numbers k)) same;
      steps = grind (arith, common_steps);
      most = grind (arith, common_steps);
      least = grind (arith, common_steps);
    }

pub returns-else-not-is_used : goal.returns-else-not-is_used
returns-else-not-is_used c =
    let m = c.args.self.now.map in
    let v = c.in-Some.named.now in
    let w : Named = record { offers = c.take.new.self; namers = v.namers; own = v.own } in
    let bs = c.name.result.now in
    let n = c.get_mut.follows.lender w in
    let writes : IsSetAt bs m n (Some w) = on_some c.in-Some.is (c.get_mut.follows.holds w) in
    let found = c.in-Some.ensures.value in
    let stay = others offer_stanza c.args.going.now.span in
    record {
      offers = λ q.
          changed named_offers [] bs m n w stay writes (c.take.ensures ∙ ap stay (part-found named_offers [] bs m _ found)) q
          ∙ ap (λ b. cond (bytes_eq b q) (stay (offers_under m q)) (offers_under m q)) c.name.ensures;
      namers = unchanged named_namers [] bs m n w writes (part-found named_namers [] bs m _ found);
      rows = unchanged named_own no_rows bs m n w writes (part-found named_own no_rows bs m _ found);
      counts = λ k.
          let same : c.as_slice.result.now ≡ namers_under m c.args.offer.now.name = c.as_slice.ensures ∙ part-found named_namers [] bs m _ found ∙ ap (namers_under m) c.name.ensures in
          c.in_ok-lower_clauses.ensures.counts k ∙ ap (λ (xs : List NamingAtom). less_by (sum_by (hit c.args.going.now.pending c.args.offer.now k) xs) (number_among c.args.counters.now.numbers k)) same;
      steps = grind (arith, common_steps);
      most = grind (arith, common_steps);
      least = grind (arith, common_steps);
    }
