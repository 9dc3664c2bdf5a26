use Rattle.std.proofs.Common.{sym, subst}
use Rattle.ctl_store.specs.Store.{keyed_of}
use Rattle.ctl_policy.specs.Kept.{IsKept}
use Rattle.ctl_index.specs.Inside.TablesByName.{rows_under}
use Rattle.ctl_index.proofs.StoreLemmas.{stanza_under}
use Rattle.ctl_index.proofs.rows.rows_are_defined.Goals as goal

pub returns : goal.returns
returns c = λ h m rising kept.
    c.rows_are_kept.ensures (rows_under m) (keyed_of h).lists rising (subst (IsKept (rows_under m)) (λ i k. sym (stanza_under k (keyed_of h).lists) i) kept)
