use Rattle.std.proofs.Common.{sym, subst}
use Rattle.ctl_policy.specs.Kept.{IsKept}
use Rattle.ctl_index.specs.Inside.TablesByName.{rows_under}
use Rattle.ctl_index.proofs.KeptLemmas.{one_there, without_one}
use Rattle.ctl_index.proofs.rows.take_row_of.Goals as goal

pub returns-in-Some-clause-rows : goal.returns-in-Some-clause-rows
returns-in-Some-clause-rows c = λ all rest parted apart kept.
    let key = c.args.key in
    let x = c.args.stanza.now in
    let old = rows_under c.args.names.now.map in
    let new = rows_under c.take_row.new.self.map in
    subst (IsKept new) (λ i k. without_one key x all rest parted k i)
    (c.rows_follow_stanzas.ensures.taken key x c.package.result.now c.in-Some.version.now old new all kept (sym c.package.ensures.body) (sym c.in-Some.ensures.version) (one_there key x all rest parted) c.take_row.ensures.row c.take_row.ensures.others)

pub returns-in-None-clause-rows : goal.returns-in-None-clause-rows
returns-in-None-clause-rows c = λ all rest parted apart kept.
    let key = c.args.key in
    let x = c.args.stanza.now in
    let rows = rows_under c.args.names.now.map in
    subst (IsKept rows) (λ i k. without_one key x all rest parted k i) (c.rows_follow_stanzas.ensures.idle_goes key x rows all (sym c.in-None.ensures.version) (one_there key x all rest parted) kept)
