use Rattle.std.proofs.Common.{◌∙◌, ap}
use Rattle.std.specs.Option.{option_map_or}
use Rattle.ctl_policy.specs.Priority.{world_of}
use Rattle.ctl_policy.specs.Chosen.{choice_in}
use Rattle.ctl_index.specs.HeldCache.{HeldCache}
use Rattle.ctl_index.specs.Inside.TablesByName.{named_own, no_rows}
use Rattle.ctl_index.proofs.NameLemmas.{chosen_of}
use Rattle.ctl_index.proofs.cache.Cache.chosen.Goals as goal

pub returns-in-Some : goal.returns-in-Some
returns-in-Some c =
    let name = c.args.name.now in
    let fresh = ap (λ w. w.stale) c.self.view_is ∙ c.requires in
    c.get-in-Some.ensures ∙ ap (λ o. chosen_of (option_map_or named_own o no_rows)) c.in-Some.ensures.entry ∙ (c.self.invariant fresh).1 name ∙ ap (λ (h : HeldCache). choice_in name (world_of h.store)) c.self.view_is

pub returns-in-None : goal.returns-in-None
returns-in-None c =
    let name = c.args.name.now in
    let fresh = ap (λ w. w.stale) c.self.view_is ∙ c.requires in
    ap (λ o. chosen_of (option_map_or named_own o no_rows)) c.in-None.ensures.entry ∙ (c.self.invariant fresh).1 name ∙ ap (λ (h : HeldCache). choice_in name (world_of h.store)) c.self.view_is
