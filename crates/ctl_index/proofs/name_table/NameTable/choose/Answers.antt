use Rattle.std.proofs.Common.{◌≡◌, [], Some, ap, sym, ◌∙◌}
use Rattle.std.specs.Str.{bytes_eq}
use Rattle.ctl_policy.specs.Chosen.{choice_in}
use Rattle.ctl_policy.specs.Priority.{world_of}
use Rattle.ctl_policy.specs.Rows.{newest_first, rows_named}
use Rattle.ctl_index.specs.declared.named.Named.{Named}
use Rattle.ctl_index.specs.Inside.TablesByName.{IsSetAt, rows_under, offers_under, namers_under, named_offers, named_namers, named_own, no_rows}
use Rattle.ctl_index.proofs.NameLemmas.{on_some, unchanged, replaced, part-found, used_written, used_replaced, nothing_left, same_either, none_under, rows_of_own, part_written, part_replaced, choice_written, choice_replaced, choice_absent, same_rows}
use Rattle.ctl_index.proofs.name_table.NameTable.choose.Goals as goal

pub returns-in_default-clause-chosen : goal.returns-in_default-clause-chosen
returns-in_default-clause-chosen c =
    let m = c.args.self.now.map in
    let name = c.args.name.now in
    let w = world_of c.args.store.now in
    let bare : newest_first (rows_named name w.lists) ≡ [] =
    sym (c.rows_are_shown.ensures.alike (rows_under m name) name w.lists c.requires) ∙ ap (λ o. newest_first (rows_of_own o)) (none_under named_own no_rows name m c.in_default.ensures.value) ∙ c.rows_are_shown.ensures.none in
    choice_absent name m c.get_mut.follows.lender-at-none (choice_in name w) (c.names_with_rows_are_kept.ensures.choice name w bare) c.in_default.ensures.value c.get_mut.follows.holds-at-none

pub returns-in_default-clause-stays : goal.returns-in_default-clause-stays
returns-in_default-clause-stays c = same_rows c.args.self.now.map c.get_mut.follows.lender-at-none c.get_mut.follows.holds-at-none

pub invariant_of-self-then-not-is_used : goal.invariant_of-self-then-not-is_used
invariant_of-self-then-not-is_used c =
    let m = c.args.self.now.map in
    let v = c.in-Some.named.now in
    let w : Named = record { offers = v.offers; namers = v.namers; own = record { rows = v.own.rows; chosen = c.new-named.result } } in
    let bs = c.args.name.now in
    let n = c.get_mut.follows.lender w in
    let writes : IsSetAt bs m n (Some w) = on_some c.in-Some.is (c.get_mut.follows.holds w) in
    record { used = used_replaced bs m n c.remove.new.self w writes c.remove.ensures c.args.self.now.used }

pub invariant_of-self-else-not-is_used : goal.invariant_of-self-else-not-is_used
invariant_of-self-else-not-is_used c =
    let m = c.args.self.now.map in
    let v = c.in-Some.named.now in
    let w : Named = record { offers = v.offers; namers = v.namers; own = record { rows = v.own.rows; chosen = c.new-named.result } } in
    let bs = c.args.name.now in
    let n = c.get_mut.follows.lender w in
    let writes : IsSetAt bs m n (Some w) = on_some c.in-Some.is (c.get_mut.follows.holds w) in
    record { used = used_written bs m n w writes (sym c.is_used.ensures ∙ c.if-not-is_used.false) c.args.self.now.used }

pub returns-then-not-is_used : goal.returns-then-not-is_used
returns-then-not-is_used c =
    let m = c.args.self.now.map in
    let v = c.in-Some.named.now in
    let w : Named = record { offers = v.offers; namers = v.namers; own = record { rows = v.own.rows; chosen = c.new-named.result } } in
    let bs = c.args.name.now in
    let n = c.get_mut.follows.lender w in
    let o = c.remove.new.self in
    let writes : IsSetAt bs m n (Some w) = on_some c.in-Some.is (c.get_mut.follows.holds w) in
    let left = nothing_left w (sym c.is_used.ensures ∙ c.if-not-is_used.true) in
    let found = c.in-Some.ensures.value in
    record {
      chosen = choice_replaced bs m n w writes (choice_in bs (world_of c.args.store.now)) (c.new-named.ensures ∙ c.choose.ensures) o c.remove.ensures left.own;
      stays = record {
        offers = λ i q. (replaced named_offers [] bs m n o w (λ l. l) writes c.remove.ensures (sym (part-found named_offers [] bs m _ found) ∙ left.offers) q ∙ same_either (bytes_eq bs q) (offers_under m q)) i;
        namers = λ i q. (replaced named_namers [] bs m n o w (λ l. l) writes c.remove.ensures (sym (part-found named_namers [] bs m _ found) ∙ left.namers) q ∙ same_either (bytes_eq bs q) (namers_under m q)) i;
        rows = λ i q. part_replaced rows_of_own bs m n w writes (ap rows_of_own (part-found named_own no_rows bs m _ found)) o c.remove.ensures left.own q i;
      };
    }

pub returns-else-not-is_used : goal.returns-else-not-is_used
returns-else-not-is_used c =
    let m = c.args.self.now.map in
    let v = c.in-Some.named.now in
    let w : Named = record { offers = v.offers; namers = v.namers; own = record { rows = v.own.rows; chosen = c.new-named.result } } in
    let bs = c.args.name.now in
    let n = c.get_mut.follows.lender w in
    let writes : IsSetAt bs m n (Some w) = on_some c.in-Some.is (c.get_mut.follows.holds w) in
    let found = c.in-Some.ensures.value in
    record {
      chosen = choice_written bs m n w writes (choice_in bs (world_of c.args.store.now)) (c.new-named.ensures ∙ c.choose.ensures);
      stays = record {
        offers = λ i q. unchanged named_offers [] bs m n w writes (part-found named_offers [] bs m _ found) q i;
        namers = λ i q. unchanged named_namers [] bs m n w writes (part-found named_namers [] bs m _ found) q i;
        rows = λ i q. part_written rows_of_own bs m n w writes (ap rows_of_own (part-found named_own no_rows bs m _ found)) q i;
      };
    }
