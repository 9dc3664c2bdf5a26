use Rattle.std.proofs.Common.{ℕ, [], List, Some, None, cond, ap, sym, subst, ◌∙◌, arith}
use Rattle.std.specs.Str.{bytes_eq}
use Rattle.std.proofs.lemmas.Grind.{common_steps}
use Rattle.ctl_index.specs.declared.named.Named.{Named}
use Rattle.ctl_index.specs.Inside.TablesByName.{IsSetAt, own_under, named_own, offers_under, namers_under, named_offers, named_namers, no_rows}
use Rattle.ctl_index.specs.Inside.TablesOrder.{others, namer_stanza}
use Rattle.ctl_index.proofs.NameLemmas.{on_some, changed, unchanged, replaced, part-found, used_written, used_replaced, nothing_left, same_either}
use Rattle.ctl_index.proofs.name_table.NameTable.take_atom.Goals as goal

pub invariant_of-self-then-not-is_used : goal.invariant_of-self-then-not-is_used
invariant_of-self-then-not-is_used c =
    let m = c.args.self.now.map in
    let v = c.in-Some.named.now in
    let w : Named = record { offers = v.offers; namers = c.take.new.self; own = v.own } in
    let bs = c.name.result.now in
    let n = c.get_mut.follows.lender w in
    let writes : IsSetAt bs m n (Some w) = on_some c.in-Some.is (c.get_mut.follows.holds w) in
    let removes : IsSetAt bs n c.remove.new.self None = subst (λ (b : List ℕ). IsSetAt b n c.remove.new.self None) (c.name-then-not-is_used.ensures ∙ sym c.name.ensures) c.remove.ensures in
    record { used = used_replaced bs m n c.remove.new.self w writes removes c.args.self.now.used }

pub invariant_of-self-else-not-is_used : goal.invariant_of-self-else-not-is_used
invariant_of-self-else-not-is_used c =
    let m = c.args.self.now.map in
    let v = c.in-Some.named.now in
    let w : Named = record { offers = v.offers; namers = c.take.new.self; own = v.own } in
    let bs = c.name.result.now in
    let n = c.get_mut.follows.lender w in
    let writes : IsSetAt bs m n (Some w) = on_some c.in-Some.is (c.get_mut.follows.holds w) in
    record { used = used_written bs m n w writes (sym c.is_used.ensures ∙ c.if-not-is_used.false) c.args.self.now.used }

pub returns-then-not-is_used : goal.returns-then-not-is_used
returns-then-not-is_used c =
    let m = c.args.self.now.map in
    let v = c.in-Some.named.now in
    let w : Named = record { offers = v.offers; namers = c.take.new.self; own = v.own } in
    let bs = c.name.result.now in
    let n = c.get_mut.follows.lender w in
    let writes : IsSetAt bs m n (Some w) = on_some c.in-Some.is (c.get_mut.follows.holds w) in
    let removes : IsSetAt bs n c.remove.new.self None = subst (λ (b : List ℕ). IsSetAt b n c.remove.new.self None) (c.name-then-not-is_used.ensures ∙ sym c.name.ensures) c.remove.ensures in
    let left = nothing_left w (sym c.is_used.ensures ∙ c.if-not-is_used.true) in
    let found = c.in-Some.ensures.value in
    let stay = others namer_stanza c.args.going.now.span in
    record {
      namers = λ q.
          replaced named_namers [] bs m n c.remove.new.self w stay writes removes (sym (c.take.ensures ∙ ap stay (part-found named_namers [] bs m _ found)) ∙ left.namers) q
          ∙ ap (λ b. cond (bytes_eq b q) (stay (namers_under m q)) (namers_under m q)) c.name.ensures;
      offers = λ q. replaced named_offers [] bs m n c.remove.new.self w (λ l. l) writes removes (sym (part-found named_offers [] bs m _ found) ∙ left.offers) q ∙ same_either (bytes_eq bs q) (offers_under m q);
      rows = λ q. replaced named_own no_rows bs m n c.remove.new.self w (λ l. l) writes removes (sym (part-found named_own no_rows bs m _ found) ∙ left.own) q ∙ same_either (bytes_eq bs q) (own_under m q);
      steps = grind (arith, common_steps);
    }

pub returns-else-not-is_used : goal.returns-else-not-is_used
returns-else-not-is_used c =
    let m = c.args.self.now.map in
    let v = c.in-Some.named.now in
    let w : Named = record { offers = v.offers; namers = c.take.new.self; own = v.own } in
    let bs = c.name.result.now in
    let n = c.get_mut.follows.lender w in
    let writes : IsSetAt bs m n (Some w) = on_some c.in-Some.is (c.get_mut.follows.holds w) in
    let found = c.in-Some.ensures.value in
    let stay = others namer_stanza c.args.going.now.span in
    record {
      namers = λ q.
          changed named_namers [] bs m n w stay writes (c.take.ensures ∙ ap stay (part-found named_namers [] bs m _ found)) q
          ∙ ap (λ b. cond (bytes_eq b q) (stay (namers_under m q)) (namers_under m q)) c.name.ensures;
      offers = unchanged named_offers [] bs m n w writes (part-found named_offers [] bs m _ found);
      rows = unchanged named_own no_rows bs m n w writes (part-found named_own no_rows bs m _ found);
      steps = grind (arith, common_steps);
    }
