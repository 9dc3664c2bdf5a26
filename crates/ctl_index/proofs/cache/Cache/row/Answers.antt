use Rattle.std.proofs.Common.{List, ap, sym, subst, ◌∙◌}
use Rattle.std.specs.FinMap as fin
use Rattle.ctl_relation.specs.Version.{version_cmp}
use Rattle.ctl_store.specs.declared.stanza_key.StanzaKey.{StanzaKey}
use Rattle.ctl_store.specs.Keys.{AreHeld}
use Rattle.ctl_store.specs.Store.{keyed_of}
use Rattle.ctl_policy.specs.Keys.{or_none}
use Rattle.ctl_policy.specs.Rows.{Rows, AreRowsOf}
use Rattle.ctl_index.specs.HeldCache.{HeldCache}
use Rattle.ctl_index.specs.RowsTold.{row_at}
use Rattle.ctl_index.proofs.cache.Cache.row.Goals as goal

pub returns-in-None-clause-row : goal.returns-in-None-clause-row
returns-in-None-clause-row c =
    let h = c.self.inside.store in
    let lists = (keyed_of h).lists in
    let name = c.args.name.now in
    let version = c.args.version.now in
    let fresh = ap (λ w. w.stale) c.self.view_is ∙ c.requires in
    let are : AreRowsOf fin.empty name lists = subst (λ (rows : Rows). AreRowsOf rows name lists) c.in-None.ensures.none (c.rows_are_defined.ensures h c.self.inside.tables.names.map c.counts-counts.ensures.order (c.self.invariant fresh).0.rows name) in
    ap or_none (sym (fin.get-empty version_cmp version) ∙ are version) ∙ ap (λ (w : HeldCache). row_at name version (keyed_of w.store).lists) c.self.view_is

pub returns-in-Some-clause-held : goal.returns-in-Some-clause-held
returns-in-Some-clause-held c =
    let h = c.self.inside.store in
    let lists = (keyed_of h).lists in
    let name = c.args.name.now in
    let version = c.args.version.now in
    let fresh = ap (λ w. w.stale) c.self.view_is ∙ c.requires in
    let are = c.rows_are_defined.ensures h c.self.inside.tables.names.map c.counts-counts.ensures.order (c.self.invariant fresh).0.rows name in
    let lent : AreRowsOf c.in-Some.rows.now name lists = subst (λ (rows : Rows). AreRowsOf rows name lists) (sym c.in-Some.ensures.some) are in
    let held = subst (λ (keys : List StanzaKey). AreHeld keys lists) (sym c.keys.ensures.keys) (c.rows_are_held.ensures.version c.in-Some.rows.now name lists lent version) in
    subst (λ (w : HeldCache). AreHeld c.keys.result.now (keyed_of w.store).lists) c.self.view_is held
