use Rattle.std.proofs.Common.{ℕ, List, subst}
use Rattle.ctl_store.specs.Keys.{Keyed, AreCome}
use Rattle.ctl_policy.specs.Rows.{AreRowsOf}
use Rattle.ctl_index.specs.Inside.TablesByName.{rows_under}
use Rattle.ctl_index.proofs.TouchedLemmas.{touches_only}
use Rattle.ctl_index.proofs.touched.touched_names_are_told.Goals as goal

pub returns : goal.returns
returns c = λ h plan new touched m made covers rows.
    let accepted = c.plans_are_accepted.ensures h plan made.ready made.rising made.distinct made.change (subst (λ (k : Keyed). AreCome plan.added plan.edit k.lists) made.keyed made.come) in
    touches_only c.rows_tell_touched_names.ensures h touched plan.edit m accepted covers (subst (λ (k : Keyed). (q : List ℕ) → AreRowsOf (rows_under m q) q k.lists) made.keyed rows)
