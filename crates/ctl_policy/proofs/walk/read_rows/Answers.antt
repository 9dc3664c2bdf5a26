use Rattle.std.proofs.Common.{subst}
use Rattle.ctl_store.specs.Store.{keyed_of}
use Rattle.ctl_policy.specs.Inside.HeldRead.{IsReadSoFar}
use Rattle.ctl_policy.proofs.ReadLemmas.{read_none, read_all}
use Rattle.ctl_policy.proofs.walk.read_rows.Goals as goal

pub entries-init : goal.entries-init
entries-init c = read_none c.args.name.now c.new-rows.result (keyed_of c.args.store.now).lists c.entries-left.result c.new-rows.ensures c.entries-left.ensures.entries c.entries-left.ensures.order

pub returns : goal.returns
returns c =
    let lists = (keyed_of c.args.store.now).lists in
    read_all c.args.name.now c.entries.rows lists (subst (λ l. IsReadSoFar c.args.name.now c.entries.rows l lists) c.in_default.ensures.steps.0 c.entries.invariant)
