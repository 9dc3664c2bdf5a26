use Rattle.std.proofs.Common.{◌≡◌, ℕ, List, map, subst}
use Rattle.ctl_store.specs.Store.{Held, keyed_of}
use Rattle.ctl_policy.specs.Priority.{world_of}
use Rattle.ctl_policy.specs.Rows.{rows_named, newest_first, keys_of_row}
use Rattle.ctl_query.specs.Packages.{names_known}
use Rattle.ctl_query.proofs.asking.Asking.all_rows.Goals as goal

pub returns : goal.returns
returns c =
    subst (λ (store : Held). c.all_rows.result ≡ map (λ (name : List ℕ). map keys_of_row (newest_first (rows_named name (keyed_of store).lists))) (names_known (world_of store)))
    c.self.view_is c.all_rows.ensures.rows
