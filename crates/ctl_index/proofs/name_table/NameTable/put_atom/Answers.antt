use Rattle.std.proofs.Common.{◌≡◌, ℕ, [], List, length, nat_eq, ◌&&◌, not, cond, ap, sym, ◌∙◌}
use Rattle.std.specs.List.{sum_by}
use Rattle.std.specs.Str.{bytes_eq}
use Rattle.ctl_index.specs.Inside.TablesByName.{at_name}
use Rattle.ctl_index.specs.declared.keys.NamingAtom.{NamingAtom}
use Rattle.ctl_index.specs.declared.named.Named.{Named}
use Rattle.std.specs.Option.{option_map_or}
use Rattle.ctl_index.specs.Inside.TablesByName.{own_under, named_own, namers_under, named_offers, named_namers, no_rows, is_bare}
use Rattle.ctl_index.specs.Inside.TablesOrder.{namer_of, namer_stanza, put_in_order}
use Rattle.ctl_index.proofs.NameLemmas.{on_some, none_more, changed, unchanged, part-found, used_written, used_found, used_more_too}
use Rattle.ctl_index.proofs.SumLemmas.{sum-either}
use Rattle.ctl_index.proofs.name_table.NameTable.put_atom.Goals as goal

pub invariant_of-self : goal.invariant_of-self
invariant_of-self c =
    let m = c.args.self.now.map in
    let v = c.in-Some.named.now in
    let w : Named = record { offers = v.offers; namers = c.put.new.self; own = v.own } in
    record {
      used = used_written c.name.result.now m (c.get_mut.follows.lender w) w (on_some c.in-Some.is (c.get_mut.follows.holds w))
          (ap (λ (xs : List NamingAtom). not ((nat_eq (length (named_offers v)) 0 && nat_eq (length xs) 0) && is_bare (named_own v))) c.in_err-put-in-Some.ensures.err ∙ used_found m c.name.result.now v c.in-Some.ensures.value c.args.self.now.used) c.args.self.now.used;
    }

pub invariant_of-self-in-Some : goal.invariant_of-self-in-Some
invariant_of-self-in-Some c =
    let m = c.args.self.now.map in
    let v = c.in-Some.named.now in
    let w : Named = record { offers = v.offers; namers = c.put.new.self; own = v.own } in
    record {
      used = used_written c.name.result.now m (c.get_mut.follows.lender w) w (on_some c.in-Some.is (c.get_mut.follows.holds w))
          (ap (λ (xs : List NamingAtom). not ((nat_eq (length (named_offers v)) 0 && nat_eq (length xs) 0) && is_bare (named_own v))) c.in_ok-put-in-Some.ensures.ok ∙ used_more_too namer_stanza (named_namers v) c.new.result (nat_eq (length (named_offers v)) 0) (is_bare (named_own v))) c.args.self.now.used;
    }

pub returns-in_ok-put-in-Some-clause-offers : goal.returns-in_ok-put-in-Some-clause-offers
returns-in_ok-put-in-Some-clause-offers c =
    let m = c.args.self.now.map in
    let v = c.in-Some.named.now in
    let w : Named = record { offers = v.offers; namers = c.put.new.self; own = v.own } in
    unchanged named_offers [] c.name.result.now m (c.get_mut.follows.lender w) w (on_some c.in-Some.is (c.get_mut.follows.holds w)) (part-found named_offers [] c.name.result.now m _ c.in-Some.ensures.value)

pub returns-in_ok-put-in-Some-clause-namers : goal.returns-in_ok-put-in-Some-clause-namers
returns-in_ok-put-in-Some-clause-namers c =
    let m = c.args.self.now.map in
    let v = c.in-Some.named.now in
    let w : Named = record { offers = v.offers; namers = c.put.new.self; own = v.own } in
    let f : List NamingAtom → List NamingAtom = λ l. put_in_order namer_stanza (namer_of c.args.key c.args.atom.now) l in
    λ q g.
    ap (sum_by g) (changed named_namers [] c.name.result.now m (c.get_mut.follows.lender w) w f (on_some c.in-Some.is (c.get_mut.follows.holds w)) (c.in_ok-put-in-Some.ensures.ok ∙ ap (λ n. put_in_order namer_stanza n (named_namers v)) c.new.ensures ∙ ap f (part-found named_namers [] c.name.result.now m _ c.in-Some.ensures.value)) q
    ∙ ap (λ b. cond (bytes_eq b q) (f (namers_under m q)) (namers_under m q)) c.name.ensures)
    ∙ sum-either namer_stanza g (bytes_eq c.args.atom.now.name q) (namers_under m q) (namer_of c.args.key c.args.atom.now)

pub returns-in_ok-put-in-Some-clause-rows : goal.returns-in_ok-put-in-Some-clause-rows
returns-in_ok-put-in-Some-clause-rows c =
    let m = c.args.self.now.map in
    let v = c.in-Some.named.now in
    let w : Named = record { offers = v.offers; namers = c.put.new.self; own = v.own } in
    unchanged named_own no_rows c.name.result.now m (c.get_mut.follows.lender w) w (on_some c.in-Some.is (c.get_mut.follows.holds w)) (part-found named_own no_rows c.name.result.now m _ c.in-Some.ensures.value)

pub returns-in_ok-insert-in-None-clause-rows : goal.returns-in_ok-insert-in-None-clause-rows
returns-in_ok-insert-in-None-clause-rows c =
    let m = c.args.self.now.map in
    let bs = c.name-in-None.result.now in
    let same : (q : List ℕ) → own_under c.get_mut.follows.lender-at-none q ≡ own_under m q = λ q. ap (λ o. option_map_or named_own o no_rows) (c.get_mut.follows.holds-at-none q) in
    λ q.
    c.in_ok-insert-in-None.ensures.rows q ∙ ap (cond (bytes_eq bs q) c.none.result) (same q)
    ∙ none_more named_own no_rows bs m m c.none.result c.none.ensures (c.in-None.ensures.value ∙ ap (at_name m) (c.name.ensures ∙ sym c.name-in-None.ensures)) (λ r i. at_name m r) q
