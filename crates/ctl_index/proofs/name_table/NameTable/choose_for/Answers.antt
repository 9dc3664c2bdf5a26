use Rattle.std.proofs.Common.{◌≡◌, [], ap, sym, subst, ◌∙◌}
use Rattle.std.specs.Option.{option_map_or}
use Rattle.ctl_store.specs.Store.{keyed_of}
use Rattle.ctl_policy.specs.Priority.{world_of}
use Rattle.ctl_policy.specs.Rows.{Rows, AreRowsOf, newest_first, rows_named}
use Rattle.ctl_index.specs.Inside.TablesByName.{named_own, no_rows, rows_under}
use Rattle.ctl_index.proofs.AnewLemmas.{renewed, same_but_chosen, still_used}
use Rattle.ctl_index.proofs.NameLemmas.{rows_of_own}
use Rattle.ctl_index.proofs.name_table.NameTable.choose_for.Goals as goal

pub choose-requires : goal.choose-requires
choose-requires c = λ q v e.
    subst (λ (r : Rows). AreRowsOf r q (keyed_of c.args.store.now).lists) (ap (λ o. rows_of_own (option_map_or named_own o no_rows)) e) (c.requires.rows q)

pub invariant_of-self : goal.invariant_of-self
invariant_of-self c = record { used = still_used c.args.store.now c.args.list c.args.self.now.map c.choose.new.self c.choose.ensures c.args.self.now.used c.requires.none }

pub returns-clause-chosen : goal.returns-clause-chosen
returns-clause-chosen c =
    let m = c.args.self.now.map in
    let w = world_of c.args.store.now in
    renewed c.args.store.now c.args.list m c.choose.new.self c.choose.ensures (λ q e.
    let bare : newest_first (rows_named q w.lists) ≡ [] =
    sym (c.rows_are_shown.ensures.alike (rows_under m q) q w.lists (c.requires.rows q)) ∙ ap (λ o. newest_first (rows_of_own (option_map_or named_own o no_rows))) e ∙ c.rows_are_shown.ensures.none in
    c.names_with_rows_are_kept.ensures.choice q w bare)

pub returns-clause-stays : goal.returns-clause-stays
returns-clause-stays c = same_but_chosen c.args.store.now c.args.list c.args.self.now.map c.choose.new.self c.choose.ensures
