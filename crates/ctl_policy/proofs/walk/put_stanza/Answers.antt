use Rattle.std.proofs.Common.{sym}
use Rattle.ctl_policy.proofs.ShownLemmas.{on_ok_map}
use Rattle.ctl_policy.proofs.ReadLemmas.{put_row, not_put}
use Rattle.ctl_policy.proofs.walk.put_stanza.Goals as goal

pub returns-in-Some : goal.returns-in-Some
returns-in-Some c = on_ok_map c.put.result (put_row c.args.name.now c.in-Some.version.now c.args.stanza.now c.args.key c.args.rows.now c.put.new.self (sym c.in-Some.ensures)) c.put.ensures.ok

pub returns-in-None : goal.returns-in-None
returns-in-None c = not_put c.args.name.now c.args.stanza.now c.args.key c.args.rows.now (sym c.in-None.ensures)
