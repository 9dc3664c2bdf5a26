use Rattle.std.proofs.Common.{◌≡◌, true, is_some, map, ap, sym, subst, ◌∙◌}
use Rattle.ctl_store.specs.Store.{keyed_of}
use Rattle.ctl_index.specs.HeldCache.{HeldCache, standing}
use Rattle.std.specs.List.{AllByRecursion}
use Rattle.std.specs.List.Sorted.{IsPermutation}
use Rattle.ctl_store.specs.Keys.{AreHeld, stanza_at}
use Rattle.ctl_index.specs.declared.keys.AtomKey.{AtomKey}
use Rattle.ctl_index.specs.Names.{namers_named}
use Rattle.ctl_index.specs.Inside.TablesOrder.{namer_key}
use Rattle.ctl_index.specs.Inside.TablesPending.{AreSeen, in_store}
use Rattle.ctl_index.proofs.StoreLemmas.{rising_apart, store_seen}
use Rattle.ctl_index.proofs.ViewLemmas.{namers_permuted, namers_held, keys_held}
use Rattle.ctl_index.proofs.cache.Cache.namers.Goals as goal

pub returns-clause-namers : goal.returns-clause-namers
returns-clause-namers c =
    let h = c.self.inside.store in
    let fresh = ap (λ w. w.stale) c.self.view_is ∙ c.requires in
    let was = (c.self.invariant fresh).0 in
    let sees : AreSeen (in_store h) (standing h) = store_seen h (rising_apart (keyed_of h).lists c.counts-counts.ensures.order) in
    subst (λ (w : HeldCache). IsPermutation (namers_named c.args.name.now (standing w.store)) c.new.result) c.self.view_is
    (subst (IsPermutation (namers_named c.args.name.now (standing h))) (sym (c.new.ensures ∙ ap (map namer_key) c.namers.ensures)) (namers_permuted h (standing h) c.self.inside.tables was sees c.args.name.now))

pub returns-clause-held : goal.returns-clause-held
returns-clause-held c =
    let h = c.self.inside.store in
    let fresh = ap (λ w. w.stale) c.self.view_is ∙ c.requires in
    let was = (c.self.invariant fresh).0 in
    let sees : AreSeen (in_store h) (standing h) = store_seen h (rising_apart (keyed_of h).lists c.counts-counts.ensures.order) in
    subst (λ (w : HeldCache). AreHeld (map (λ (k : AtomKey). k.stanza) c.new.result) (keyed_of w.store).lists) c.self.view_is
    (keys_held h c.new.result (subst (AllByRecursion (λ (k : AtomKey). is_some (stanza_at k.stanza (keyed_of h).lists) ≡ true)) (sym (c.new.ensures ∙ ap (map namer_key) c.namers.ensures)) (namers_held h (standing h) c.self.inside.tables was sees c.args.name.now)))
