use Rattle.std.proofs.Common.{◌≤◌, ◌+◌, ◌∙◌, refl, ap, sym, subst, arith}
use Rattle.std.specs.FinMap as fin
use Rattle.ctl_stanza.specs.Content.{package_of, version_of}
use Rattle.ctl_ordered.specs.Ordered as ordered
use Rattle.ctl_store.specs.Named.{at_name}
use Rattle.ctl_store.specs.State.{stanza_count}
use Rattle.ctl_store.specs.Edits.{Put}
use Rattle.ctl_store.specs.Step.{after, has_stanza, put_stanza, with_stanzas}
use Rattle.ctl_store.specs.Keys.{stanza_lists, put_keyed, keyed_after}
use Rattle.ctl_store.specs.Store.{HeldList, lists_of, state_of, keyed_of}
use Rattle.ctl_store.specs.Inside.Sound.{IsSound}
use Rattle.ctl_store.proofs.ListedLemmas.{in_order_next, if_some_map, Changes-put, change_lists, put_list, found_count, more_is}
use Rattle.ctl_store.proofs.SoundLemmas.{sound_change, Keeps, put_keeps}
use Rattle.ctl_store.proofs.AcceptLemmas.{accepted_edits, put_found, put_count, put_fits}
use Rattle.ctl_store.proofs.store.Store.put.Goals as goal

pub put_in-requires-clause-below : goal.put_in-requires-clause-below
put_in-requires-clause-below c =
    let s = c.self.inside in
    let h = c.args.self.now in
    let more = accepted_edits h.limits (state_of h) (Put c.args.list c.args.stanza.value) c.requires.accepted in
    if_some_map (at_name c.args.list (ordered.entries s.lists)) (λ (x : HeldList) (k : x.next ≤ s.limits.stanzas + s.edits). omega (arith, k, more, c.self.invariant.stanzas_bounded, c.self.invariant.edits_bounded, ap (λ h. h.edits) c.self.view_is, ap (λ h. h.limits.edits) c.self.view_is))
    (in_order_next 0 (ordered.entries s.lists) s.next_list (s.limits.stanzas + s.edits) c.args.list c.self.invariant.order)

pub overflow_add-self : goal.overflow_add-self
overflow_add-self c =
    let s = c.self.inside in
    let h = c.args.self.now in
    let list = c.args.list in
    let x = c.args.stanza.value in
    let f = put_found h.limits (state_of h) list x c.requires.accepted in
    let held = ap (λ h. stanza_count (state_of h).lists) c.self.view_is in
    let most = ap (λ h. h.limits.stanzas) c.self.view_is in
    let more = c.more_if_none_goes.ensures ∙ more_is (has_stanza list (package_of x) (version_of x) (state_of h).lists) c.args.gone (c.requires.gone ∙ found_count list (package_of x) (version_of x) (lists_of h.lists)) in
    omega (arith, more, put_fits h.limits (state_of h) list x f.0 c.requires.accepted f.1, c.self.invariant.counted, c.self.invariant.stanzas_bounded, held, most)

pub invariant_of-self : goal.invariant_of-self
invariant_of-self c =
    let s = c.self.inside in
    let h = c.args.self.now in
    let list = c.args.list in
    let x = c.args.stanza.value in
    let f = put_found h.limits (state_of h) list x c.requires.accepted in
    let held = ap (λ h. stanza_count (state_of h).lists) c.self.view_is in
    let most = ap (λ h. h.limits.stanzas) c.self.view_is in
    let more = c.more_if_none_goes.ensures ∙ more_is (has_stanza list (package_of x) (version_of x) (state_of h).lists) c.args.gone (c.requires.gone ∙ found_count list (package_of x) (version_of x) (lists_of h.lists)) in
    let lists = c.put_in.ensures.lists in
    subst (λ m. IsSound c.put_in.new.lists.filled m s.next_list s.statuses (s.stanzas + c.more_if_none_goes.result) (s.edits + 1) s.limits s.marks.next s.pins.next) (sym c.put_in.ensures.next)
    (sound_change c.self.invariant c.put_in.new.lists.filled list f.0 (put_keyed x) (with_stanzas (put_stanza x)) (s.stanzas + c.more_if_none_goes.result) (Changes-put x) (λ k. refl) (put_list x) (subst (Keeps (with_stanzas (put_stanza x))) (sym (ap (λ h. at_name list (state_of h).lists) c.self.view_is)) (put_keeps h.limits (state_of h) list x c.requires.accepted)) (c.put_in.ensures.numbered c.self.invariant.numbered) lists
    (ap (λ h. at_name list (state_of h).lists) c.self.view_is ∙ f.1)
    (omega (arith, more, put_count (state_of h) list x f.0 f.1))
    (omega (arith, more, put_fits h.limits (state_of h) list x f.0 c.requires.accepted f.1, c.self.invariant.counted, held, most)))

pub returns : goal.returns
returns c =
    let s = c.self.inside in
    let list = c.args.list in
    let x = c.args.stanza.value in
    let lists = c.put_in.ensures.lists in
    record {
      state =
          (λ j. record { lists = (ap stanza_lists lists ∙ change_lists list (put_keyed x) (with_stanzas (put_stanza x)) (put_list x) (lists_of (ordered.entries s.lists))) j; marks = fin.from_entries (ordered.entries s.marks); pins = s.pins.pins; target = s.target; edits = s.edits + 1 })
          ∙ ap (λ h. after (state_of h) (Put list x)) c.self.view_is;
      keyed = (λ j. record { lists = lists j; next_list = s.next_list }) ∙ ap (λ h. keyed_after (keyed_of h) (Put list x)) c.self.view_is;
      limits = ap (λ h. h.limits) c.self.view_is;
    }
