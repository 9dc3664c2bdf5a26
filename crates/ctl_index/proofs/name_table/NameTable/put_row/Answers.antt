use Rattle.std.proofs.Common.{[], nat_eq, ap, sym, subst, ◌∙◌}
use Rattle.std.specs.FinMap as fin
use Rattle.ctl_policy.specs.Kept.{HasPut}
use Rattle.ctl_policy.specs.Rows.{Rows}
use Rattle.ctl_index.specs.declared.named.ChosenRows.{ChosenRows}
use Rattle.ctl_index.specs.declared.named.Named.{Named}
use Rattle.ctl_index.specs.Inside.TablesByName.{own_under, rows_under, named_offers, named_namers, named_own, no_rows}
use Rattle.ctl_index.proofs.RowLemmas.{none_there, put_there}
use Rattle.ctl_index.proofs.NameLemmas.{on_some, unchanged, part-found, used_written, used_found, used_rows, put_used, none_under, none_more, at_itself, rows_of_own, rows_own, rows_others, chosen_of, part_written, chosen_new, on_ok, on_ok_map}
use Rattle.ctl_index.proofs.name_table.NameTable.put_row.Goals as goal

pub invariant_of-self : goal.invariant_of-self
invariant_of-self c =
    let m = c.args.self.now.map in
    let v = c.in-Some.named.now in
    let w : Named = record { offers = v.offers; namers = v.namers; own = record { rows = c.put.new.self; chosen = v.own.chosen } } in
    record {
      used = used_written c.args.name.now m (c.get_mut.follows.lender w) w (on_some c.in-Some.is (c.get_mut.follows.holds w))
          (put_used c.put.result c.args.version.now c.args.key v c.put.new.self c.put.ensures.ok c.put.ensures.err (used_found m c.args.name.now v c.in-Some.ensures.value c.args.self.now.used)) c.args.self.now.used;
    }

pub insert-requires : goal.insert-requires
insert-requires c =
    used_rows (record { offers = c.new.result; namers = c.new-in-None.result; own = c.of_rows.result })
    (ap (λ (own : ChosenRows). nat_eq (fin.len own.rows) 0) c.of_rows.ensures ∙ put_there c.args.version.now c.args.key c.new-rows.result c.put-in-None.new.self c.in_ok-put-in-None.ensures.ok)

pub returns-in-Some-clause-others : goal.returns-in-Some-clause-others
returns-in-Some-clause-others c =
    let m = c.args.self.now.map in
    let v = c.in-Some.named.now in
    let w : Named = record { offers = v.offers; namers = v.namers; own = record { rows = c.put.new.self; chosen = v.own.chosen } } in
    on_ok c.put.result (rows_others c.args.name.now m (c.get_mut.follows.lender w) w (on_some c.in-Some.is (c.get_mut.follows.holds w)))

pub returns-in-Some-clause-chosen : goal.returns-in-Some-clause-chosen
returns-in-Some-clause-chosen c =
    let m = c.args.self.now.map in
    let v = c.in-Some.named.now in
    let w : Named = record { offers = v.offers; namers = v.namers; own = record { rows = c.put.new.self; chosen = v.own.chosen } } in
    on_ok c.put.result
    (part_written chosen_of c.args.name.now m (c.get_mut.follows.lender w) w (on_some c.in-Some.is (c.get_mut.follows.holds w)) (ap chosen_of (part-found named_own no_rows c.args.name.now m _ c.in-Some.ensures.value)))

pub returns-in_ok-put-in-None-clause-chosen : goal.returns-in_ok-put-in-None-clause-chosen
returns-in_ok-put-in-None-clause-chosen c =
    let m = c.args.self.now.map in
    let n = c.get_mut.follows.lender-at-none in
    on_ok_map c.insert.result
    (λ h q. ap chosen_of (h q) ∙ chosen_new c.args.name.now m n c.of_rows.result (ap chosen_of c.of_rows.ensures) c.in-None.ensures.value c.get_mut.follows.holds-at-none q) c.insert.ensures.rows

pub returns-in-Some-clause-offers : goal.returns-in-Some-clause-offers
returns-in-Some-clause-offers c =
    let m = c.args.self.now.map in
    let v = c.in-Some.named.now in
    let w : Named = record { offers = v.offers; namers = v.namers; own = record { rows = c.put.new.self; chosen = v.own.chosen } } in
    on_ok c.put.result (unchanged named_offers [] c.args.name.now m (c.get_mut.follows.lender w) w (on_some c.in-Some.is (c.get_mut.follows.holds w)) (part-found named_offers [] c.args.name.now m _ c.in-Some.ensures.value))

pub returns-in-Some-clause-namers : goal.returns-in-Some-clause-namers
returns-in-Some-clause-namers c =
    let m = c.args.self.now.map in
    let v = c.in-Some.named.now in
    let w : Named = record { offers = v.offers; namers = v.namers; own = record { rows = c.put.new.self; chosen = v.own.chosen } } in
    on_ok c.put.result (unchanged named_namers [] c.args.name.now m (c.get_mut.follows.lender w) w (on_some c.in-Some.is (c.get_mut.follows.holds w)) (part-found named_namers [] c.args.name.now m _ c.in-Some.ensures.value))

pub returns-in_ok-put-in-None-clause-row : goal.returns-in_ok-put-in-None-clause-row
returns-in_ok-put-in-None-clause-row c =
    let m = c.args.self.now.map in
    let name = c.args.name.now in
    let bare = none_there c.new-rows.result c.new-rows.ensures ∙ sym (ap rows_of_own (none_under named_own no_rows name m c.in-None.ensures.value)) in
    let put = subst (λ (r : Rows). HasPut c.args.version.now c.args.key r c.put-in-None.new.self) bare c.in_ok-put-in-None.ensures.ok in
    on_ok_map c.insert.result (λ h. subst (HasPut c.args.version.now c.args.key (rows_under m name)) (sym (ap rows_of_own (h name ∙ at_itself name c.of_rows.result (own_under c.get_mut.follows.lender-at-none name) ∙ c.of_rows.ensures))) put) c.insert.ensures.rows

pub returns-in-Some-clause-row : goal.returns-in-Some-clause-row
returns-in-Some-clause-row c =
    let m = c.args.self.now.map in
    let name = c.args.name.now in
    let v = c.in-Some.named.now in
    let w : Named = record { offers = v.offers; namers = v.namers; own = record { rows = c.put.new.self; chosen = v.own.chosen } } in
    let own = rows_own name m (c.get_mut.follows.lender w) w (on_some c.in-Some.is (c.get_mut.follows.holds w)) in
    let found = ap rows_of_own (part-found named_own no_rows name m _ c.in-Some.ensures.value) in
    on_ok_map c.put.result (λ put. subst (HasPut c.args.version.now c.args.key (rows_under m name)) (sym own) (subst (λ (r : Rows). HasPut c.args.version.now c.args.key r c.put.new.self) found put)) c.put.ensures.ok

pub returns-in_ok-put-in-None-clause-offers : goal.returns-in_ok-put-in-None-clause-offers
returns-in_ok-put-in-None-clause-offers c =
    let m = c.args.self.now.map in
    let n = c.get_mut.follows.lender-at-none in
    on_ok_map c.insert.result (λ h q. h q ∙ none_more named_offers [] c.args.name.now m n c.new.result c.new.ensures c.in-None.ensures.value c.get_mut.follows.holds-at-none q) c.insert.ensures.offers

pub returns-in_ok-put-in-None-clause-namers : goal.returns-in_ok-put-in-None-clause-namers
returns-in_ok-put-in-None-clause-namers c =
    let m = c.args.self.now.map in
    let n = c.get_mut.follows.lender-at-none in
    on_ok_map c.insert.result (λ h q. h q ∙ none_more named_namers [] c.args.name.now m n c.new-in-None.result c.new-in-None.ensures c.in-None.ensures.value c.get_mut.follows.holds-at-none q) c.insert.ensures.namers
