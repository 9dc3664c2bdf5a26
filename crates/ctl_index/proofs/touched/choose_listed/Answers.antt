use Rattle.std.proofs.Common.{ℕ, List, sym, subst}
use Rattle.ctl_store.specs.Store.{keyed_of}
use Rattle.ctl_policy.specs.Rows.{Rows, AreRowsOf}
use Rattle.ctl_index.proofs.touched.choose_listed.Goals as goal

pub choose-requires : goal.choose-requires
choose-requires c =
    let name = c.as_slice.result.now in
    subst (λ (rows : List ℕ → Rows). AreRowsOf (rows name) name (keyed_of c.args.store.now).lists) (sym c.names.invariant.stays.rows) (c.requires name)
