use Rattle.std.proofs.Common.{ap, ◌∙◌}
use Rattle.std.specs.List.{list_any}
use Rattle.std.specs.Str.{bytes_eq}
use Rattle.ctl_store.specs.Store.{keyed_of, state_of}
use Rattle.ctl_index.specs.HeldCache.{HeldCache, standing}
use Rattle.ctl_index.specs.Names.{known_names}
use Rattle.ctl_index.specs.Work.{stanzas_of_state}
use Rattle.ctl_index.proofs.LawLemmas.{contents_of_state}
use Rattle.ctl_index.proofs.NamesLemmas.{known_there}
use Rattle.ctl_index.proofs.cache.Cache.is_known.Goals as goal

pub returns : goal.returns
returns c =
    let h = c.self.inside.store in
    let name = c.args.name.now in
    let fresh = ap (λ w. w.stale) c.self.view_is ∙ c.requires in
    let was = (c.self.invariant fresh).0 in
    c.contains.ensures.there ∙ known_there name (standing h) c.self.inside.tables was c.contains.ensures.used ((c.self.invariant fresh).2 name)
    ∙ ap (λ xs. list_any (bytes_eq name) (known_names xs)) (contents_of_state (keyed_of h).lists)
    ∙ ap (λ (w : HeldCache). list_any (bytes_eq name) (known_names (stanzas_of_state (state_of w.store)))) c.self.view_is
