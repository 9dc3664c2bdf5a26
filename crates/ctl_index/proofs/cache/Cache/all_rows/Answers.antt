use Rattle.std.proofs.Common.{List, map, refl, ap, sym, subst, ◌∙◌}
use Rattle.std.specs.List.{AllByRecursion}
use Rattle.ctl_store.specs.declared.stanza_key.StanzaKey.{StanzaKey}
use Rattle.ctl_store.specs.Keys.{AreHeld}
use Rattle.ctl_store.specs.Store.{keyed_of, state_of}
use Rattle.ctl_policy.specs.Rows.{rows_named}
use Rattle.ctl_index.specs.HeldCache.{HeldCache, standing}
use Rattle.ctl_index.specs.Names.{known_names}
use Rattle.ctl_index.specs.Inside.TablesByName.{rows_under}
use Rattle.ctl_index.specs.Work.{stanzas_of_state}
use Rattle.ctl_index.proofs.AllRowsLemmas.{rows_told, rows_along, entries_found, all_held}
use Rattle.ctl_index.proofs.LawLemmas.{contents_of_state}
use Rattle.ctl_index.proofs.NamesLemmas.{known_is}
use Rattle.ctl_index.proofs.cache.Cache.all_rows.Goals as goal

pub returns-clause-rows : goal.returns-clause-rows
returns-clause-rows c =
    let h = c.self.inside.store in
    let lists = (keyed_of h).lists in
    let t = c.self.inside.tables in
    let m = t.names.map in
    let fresh = ap (λ w. w.stale) c.self.view_is ∙ c.requires in
    let was = (c.self.invariant fresh).0 in
    rows_along m lists (λ name. c.rows_are_shown.ensures.alike (rows_under m name) name lists (c.rows_are_defined.ensures h m c.counts-counts.ensures.order was.rows name)) c.entries.result
    (entries_found m c.entries.result c.entries.ensures.order c.entries.ensures.found)
    ∙ ap (map (rows_told lists)) (known_is (standing h) t was c.entries.ensures.used (c.self.invariant fresh).2 c.entries.result c.entries.ensures.order c.entries.ensures.found ∙ ap known_names (contents_of_state lists))
    ∙ ap (λ (w : HeldCache). map (rows_told (keyed_of w.store).lists) (known_names (stanzas_of_state (state_of w.store)))) c.self.view_is

pub returns-clause-held : goal.returns-clause-held
returns-clause-held c =
    let lists = (keyed_of c.args.self.now.store).lists in
    subst (λ (all : List (List (List StanzaKey))). AllByRecursion (λ rows. AllByRecursion (λ row. AreHeld row lists) rows) all) (sym (returns-clause-rows c))
    (all_held lists (λ name. c.rows_are_held.ensures.rows (rows_named name lists) name lists (λ version. refl)) (known_names (stanzas_of_state (state_of c.args.self.now.store))))
