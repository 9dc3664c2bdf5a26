use Rattle.std.proofs.Common.{ap, ◌∙◌}
use Rattle.ctl_store.specs.Store.{keyed_of, state_of}
use Rattle.ctl_index.specs.HeldCache.{HeldCache, standing}
use Rattle.ctl_index.specs.Names.{known_names}
use Rattle.ctl_index.specs.Work.{stanzas_of_state}
use Rattle.ctl_index.proofs.LawLemmas.{contents_of_state}
use Rattle.ctl_index.proofs.NamesLemmas.{known_is}
use Rattle.ctl_index.proofs.cache.Cache.names.Goals as goal

pub returns : goal.returns
returns c =
    let h = c.self.inside.store in
    let fresh = ap (λ w. w.stale) c.self.view_is ∙ c.requires in
    let was = (c.self.invariant fresh).0 in
    known_is (standing h) c.self.inside.tables was c.entries-entries.ensures.used (c.self.invariant fresh).2 c.entries-entries.result c.entries-entries.ensures.order c.entries-entries.ensures.found
    ∙ ap known_names (contents_of_state (keyed_of h).lists) ∙ ap (λ (w : HeldCache). known_names (stanzas_of_state (state_of w.store))) c.self.view_is
