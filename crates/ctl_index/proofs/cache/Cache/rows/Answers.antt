use Rattle.std.proofs.Common.{Some, map, refl, ap, ◌∙◌}
use Rattle.std.specs.List.{filter_map}
use Rattle.ctl_store.specs.Store.{keyed_of}
use Rattle.ctl_policy.specs.Rows.{rows_named, newest_first, keys_of_row, lead_of}
use Rattle.ctl_index.proofs.LeadLemmas.{each_led}
use Rattle.ctl_index.proofs.cache.Cache.rows.Goals as goal

pub returns-clause-each : goal.returns-clause-each
returns-clause-each c =
    let name = c.args.name.now in
    let lists = (keyed_of c.args.self.now.store).lists in
    let rows = rows_named name lists in
    ap (λ ks. map Some (filter_map lead_of ks)) c.row_keys.ensures.rows
    ∙ each_led (map keys_of_row (newest_first rows)) (c.rows_have_leads.ensures rows name lists (λ version. refl))
