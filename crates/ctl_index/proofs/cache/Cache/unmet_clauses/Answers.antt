use Rattle.std.proofs.Common.{false, nat_eq, ap, sym, subst, ◌∙◌}
use Rattle.ctl_store.specs.Store.{keyed_of}
use Rattle.ctl_index.specs.HeldCache.{HeldCache, standing}
use Rattle.std.specs.Option.{option_map_or}
use Rattle.ctl_store.specs.Keys.{AreRising}
use Rattle.ctl_store.specs.Entries.{entry_keys}
use Rattle.ctl_index.specs.Clauses.{unmet_clauses}
use Rattle.ctl_index.proofs.StoreLemmas.{rising_apart, keys_of_entries}
use Rattle.ctl_index.proofs.UnmetLemmas.{unmet_is}
use Rattle.ctl_index.proofs.cache.Cache.unmet_clauses.Goals as goal

pub returns : goal.returns
returns c =
    let h = c.self.inside.store in
    let fresh = ap (λ w. w.stale) c.self.view_is ∙ c.requires in
    let was = (c.self.invariant fresh).0 in
    let rising : AreRising (entry_keys (standing h)) = subst AreRising (sym (keys_of_entries (keyed_of h).lists)) c.counts-counts.ensures.order in
    c.iter.ensures.keys
    ∙ unmet_is (standing h) c.unmet.result.now rising (rising_apart (keyed_of h).lists c.counts-counts.ensures.order) c.iter.ensures.ordered (λ k. c.unmet.ensures k ∙ ap (λ o. option_map_or (λ n. nat_eq n 0) o false) (was.counters k))
    ∙ ap (λ (w : HeldCache). unmet_clauses (standing w.store)) c.self.view_is
