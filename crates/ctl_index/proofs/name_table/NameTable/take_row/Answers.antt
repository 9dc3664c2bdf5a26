use Rattle.std.proofs.Common.{ap, ◌≡◌, [], Some, sym, subst, ◌∙◌}
use Rattle.std.specs.Option.{option_map_or}
use Rattle.ctl_policy.specs.Kept.{HasTaken}
use Rattle.ctl_index.specs.declared.named.ChosenRows.{ChosenRows}
use Rattle.ctl_index.specs.declared.named.Named.{Named}
use Rattle.std.specs.Str.{bytes_eq}
use Rattle.ctl_index.specs.Inside.TablesByName.{IsSetAt, offers_under, namers_under, rows_under, named_offers, named_namers, named_own, no_rows}
use Rattle.ctl_index.proofs.RowLemmas.{none_taken}
use Rattle.ctl_index.proofs.NameLemmas.{on_some, unchanged, replaced, part-found, used_written, used_replaced, nothing_left, same_either, none_under, rows_own, rows_others, rows_replaced, others_replaced, rows_of_own, chosen_of, part_written, part_replaced}
use Rattle.ctl_index.proofs.name_table.NameTable.take_row.Goals as goal

pub returns-in_default-clause-row : goal.returns-in_default-clause-row
returns-in_default-clause-row c =
    let m = c.args.self.now.map in
    let name = c.args.name.now in
    let same : rows_under c.get_mut.follows.lender-at-none name ≡ rows_under m name = ap (λ o. (option_map_or named_own o no_rows).rows) (c.get_mut.follows.holds-at-none name) in
    none_taken c.args.version.now c.args.key (rows_under m name) (rows_under c.get_mut.follows.lender-at-none name) (ap rows_of_own (none_under named_own no_rows name m c.in_default.ensures.value)) same

pub invariant_of-self-then-not-is_used : goal.invariant_of-self-then-not-is_used
invariant_of-self-then-not-is_used c =
    let m = c.args.self.now.map in
    let v = c.in-Some.named.now in
    let w : Named = record { offers = v.offers; namers = v.namers; own = record { rows = c.take.new.self; chosen = v.own.chosen } } in
    let bs = c.args.name.now in
    let n = c.get_mut.follows.lender w in
    let writes : IsSetAt bs m n (Some w) = on_some c.in-Some.is (c.get_mut.follows.holds w) in
    record { used = used_replaced bs m n c.remove.new.self w writes c.remove.ensures c.args.self.now.used }

pub invariant_of-self-else-not-is_used : goal.invariant_of-self-else-not-is_used
invariant_of-self-else-not-is_used c =
    let m = c.args.self.now.map in
    let v = c.in-Some.named.now in
    let w : Named = record { offers = v.offers; namers = v.namers; own = record { rows = c.take.new.self; chosen = v.own.chosen } } in
    let bs = c.args.name.now in
    let n = c.get_mut.follows.lender w in
    let writes : IsSetAt bs m n (Some w) = on_some c.in-Some.is (c.get_mut.follows.holds w) in
    record { used = used_written bs m n w writes (sym c.is_used.ensures ∙ c.if-not-is_used.false) c.args.self.now.used }

pub returns-then-not-is_used : goal.returns-then-not-is_used
returns-then-not-is_used c =
    let m = c.args.self.now.map in
    let v = c.in-Some.named.now in
    let w : Named = record { offers = v.offers; namers = v.namers; own = record { rows = c.take.new.self; chosen = v.own.chosen } } in
    let bs = c.args.name.now in
    let n = c.get_mut.follows.lender w in
    let writes : IsSetAt bs m n (Some w) = on_some c.in-Some.is (c.get_mut.follows.holds w) in
    let left = nothing_left w (sym c.is_used.ensures ∙ c.if-not-is_used.true) in
    let found = c.in-Some.ensures.value in
    let taken = subst (λ (own : ChosenRows). HasTaken c.args.version.now c.args.key own.rows c.take.new.self) (part-found named_own no_rows bs m _ found) c.take.ensures in
    record {
      row = subst (HasTaken c.args.version.now c.args.key (rows_under m bs)) (sym (rows_replaced bs m n c.remove.new.self w writes c.remove.ensures left.own)) taken;
      others = others_replaced bs m n c.remove.new.self w writes c.remove.ensures left.own;
      chosen = part_replaced chosen_of bs m n w writes (ap chosen_of (part-found named_own no_rows bs m _ found)) c.remove.new.self c.remove.ensures left.own;
      offers = λ q. replaced named_offers [] bs m n c.remove.new.self w (λ l. l) writes c.remove.ensures (sym (part-found named_offers [] bs m _ found) ∙ left.offers) q ∙ same_either (bytes_eq bs q) (offers_under m q);
      namers = λ q. replaced named_namers [] bs m n c.remove.new.self w (λ l. l) writes c.remove.ensures (sym (part-found named_namers [] bs m _ found) ∙ left.namers) q ∙ same_either (bytes_eq bs q) (namers_under m q);
    }

pub returns-else-not-is_used : goal.returns-else-not-is_used
returns-else-not-is_used c =
    let m = c.args.self.now.map in
    let bs = c.args.name.now in
    let v = c.in-Some.named.now in
    let w : Named = record { offers = v.offers; namers = v.namers; own = record { rows = c.take.new.self; chosen = v.own.chosen } } in
    let n = c.get_mut.follows.lender w in
    let writes : IsSetAt bs m n (Some w) = on_some c.in-Some.is (c.get_mut.follows.holds w) in
    let found = c.in-Some.ensures.value in
    let taken = subst (λ (own : ChosenRows). HasTaken c.args.version.now c.args.key own.rows c.take.new.self) (part-found named_own no_rows bs m _ found) c.take.ensures in
    record {
      row = subst (HasTaken c.args.version.now c.args.key (rows_under m bs)) (sym (rows_own bs m n w writes)) taken;
      others = rows_others bs m n w writes;
      chosen = part_written chosen_of bs m n w writes (ap chosen_of (part-found named_own no_rows bs m _ found));
      offers = unchanged named_offers [] bs m n w writes (part-found named_offers [] bs m _ found);
      namers = unchanged named_namers [] bs m n w writes (part-found named_namers [] bs m _ found);
    }
