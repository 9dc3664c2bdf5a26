use Rattle.std.proofs.Common.{sym, subst}
use Rattle.ctl_policy.specs.Kept.{IsKept}
use Rattle.ctl_index.specs.Inside.TablesByName.{rows_under}
use Rattle.ctl_index.proofs.KeptLemmas.{none_there, with_one, on_ok_both}
use Rattle.ctl_index.proofs.rows.put_row_of.Goals as goal

pub returns-in-Some-clause-rows : goal.returns-in-Some-clause-rows
returns-in-Some-clause-rows c =
    let key = c.args.key in
    let x = c.args.stanza.now in
    let old = rows_under c.args.names.now.map in
    let new = rows_under c.put_row.new.self.map in
    on_ok_both c.put_row.result
    (λ put stay all rest parted apart kept. subst (IsKept new) (λ i k. with_one key x all rest parted k i)
    (c.rows_follow_stanzas.ensures.put key x c.package.result.now c.in-Some.version.now old new rest kept (sym c.package.ensures.body) (sym c.in-Some.ensures.version) (none_there key x all rest parted) put stay))
    c.put_row.ensures.row c.put_row.ensures.others

pub returns-in-None-clause-rows : goal.returns-in-None-clause-rows
returns-in-None-clause-rows c = λ all rest parted apart kept.
    let key = c.args.key in
    let x = c.args.stanza.now in
    let rows = rows_under c.args.names.now.map in
    subst (IsKept rows) (λ i k. with_one key x all rest parted k i) (c.rows_follow_stanzas.ensures.idle key x rows rest (sym c.in-None.ensures.version) (none_there key x all rest parted) kept)
