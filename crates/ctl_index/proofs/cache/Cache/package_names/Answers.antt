use Rattle.std.proofs.Common.{◌&&◌, nat_eq, ap, ◌∙◌}
use Rattle.std.specs.List.{starts_with}
use Rattle.ctl_store.specs.Store.{keyed_of, state_of}
use Rattle.ctl_index.specs.HeldCache.{HeldCache, standing}
use Rattle.ctl_index.specs.Names.{is_package}
use Rattle.ctl_index.specs.Offers.{contents}
use Rattle.ctl_index.specs.Work.{stanzas_of_state}
use Rattle.ctl_index.proofs.LawLemmas.{contents_of_state}
use Rattle.ctl_index.proofs.PackageLemmas.{shown_sorted, packages_are}
use Rattle.ctl_index.proofs.cache.Cache.package_names.Goals as goal

pub invariant_of-result : goal.invariant_of-result
invariant_of-result c = c.entries_from-entries.ensures.order

pub returns-clause-order : goal.returns-clause-order
returns-clause-order c = shown_sorted c.in_ok-prefix.prefix.items c.entries_from-entries.result c.entries_from-entries.ensures.order.order

pub returns-clause-members : goal.returns-clause-members
returns-clause-members c = λ name.
    let h = c.self.inside.store in
    let p = c.in_ok-prefix.prefix.items in
    let entries = c.entries_from-entries in
    let fresh = ap (λ w. w.stale) c.self.view_is ∙ c.requires in
    packages_are name p (standing h) c.self.inside.tables (c.self.invariant fresh).0 entries.result entries.ensures.order.order (entries.ensures.found name)
    ∙ ap (λ t. starts_with nat_eq name t && is_package (contents (standing h)) name) c.in_ok-prefix.ensures.items
    ∙ ap (λ xs. starts_with nat_eq name c.args.prefix.now && is_package xs name) (contents_of_state (keyed_of h).lists)
    ∙ ap (λ (w : HeldCache). starts_with nat_eq name c.args.prefix.now && is_package (stanzas_of_state (state_of w.store)) name) c.self.view_is
