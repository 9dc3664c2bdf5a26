use Rattle.std.proofs.Common.{Some, option_map, cond, ap, ◌∙◌, rules}
use Rattle.std.specs.Ordering.{is_eq}
use Rattle.ctl_relation.specs.Version.{version_cmp}
use Rattle.ctl_policy.specs.Inside.HeldRows.{row_in_map}
use Rattle.ctl_policy.specs.Keys.{with_key, or_none}
use Rattle.ctl_policy.proofs.RowLemmas.{updates_row, row_in_map-same, on_err, items_of}
use Rattle.ctl_policy.proofs.by_version.put_version.Goals as goal

pub returns-in_err-put_key-in-Some-clause-err : goal.returns-in_err-put_key-in-Some-clause-err
returns-in_err-put_key-in-Some-clause-err c =
    let m = c.args.rows.now in
    let v = c.args.version.now in
    let w = c.put_key.new.keys in
    on_err c.from_residual.result (λ q.
    updates_row v m (c.get_mut.follows.lender w) (Some w) ((c.get_mut.follows.holds w).3 (search rules)) q
    ∙ ap (λ r. cond (is_eq (version_cmp v q)) r (row_in_map m q)) (ap (λ l. Some l) c.in_err-put_key-in-Some.ensures.err ∙ ap (option_map items_of) c.in-Some.ensures.value)
    ∙ row_in_map-same v q m)

pub returns-in_ok-put_key-in-Some-clause-ok : goal.returns-in_ok-put_key-in-Some-clause-ok
returns-in_ok-put_key-in-Some-clause-ok c =
    let m = c.args.rows.now in
    let v = c.args.version.now in
    let w = c.put_key.new.keys in
    λ q.
    updates_row v m (c.get_mut.follows.lender w) (Some w) ((c.get_mut.follows.holds w).3 (search rules)) q
    ∙ ap (λ r. cond (is_eq (version_cmp v q)) r (row_in_map m q)) (ap (λ l. Some l) c.in_ok-put_key-in-Some.ensures.ok ∙ ap (λ o. Some (with_key c.args.key (or_none (option_map items_of o)))) c.in-Some.ensures.value)

pub returns-in_ok-insert-in-None-clause-ok : goal.returns-in_ok-insert-in-None-clause-ok
returns-in_ok-insert-in-None-clause-ok c =
    let m = c.get_mut.follows.lender-at-none in
    let was = c.get_mut.follows.holds-at-none in
    let v = c.args.version.now in
    λ q.
    updates_row c.in_ok-version-in-None.version m c.insert.new.self (Some c.in_ok-keys-in-None.keys) c.in_ok-insert-in-None.ensures.updates q
    ∙ ap (λ x. cond (is_eq (version_cmp x q)) (Some c.in_ok-keys-in-None.keys.items) (row_in_map m q)) c.in_ok-version-in-None.ensures
    ∙ ap (λ r. cond (is_eq (version_cmp v q)) r (row_in_map m q)) (ap (λ l. Some l) c.in_ok-keys-in-None.ensures ∙ ap (λ o. Some (with_key c.args.key (or_none (option_map items_of o)))) c.in-None.ensures.value)
    ∙ ap (λ l. cond (is_eq (version_cmp v q)) (Some (with_key c.args.key (or_none (row_in_map c.args.rows.now v)))) (row_in_map l q)) was
