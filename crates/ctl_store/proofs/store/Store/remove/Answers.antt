use Rattle.std.proofs.Common.{◌+◌, ◌-◌, ◌∙◌, refl, ap, sym, subst, Some, arith}
use Rattle.std.specs.FinMap as fin
use Rattle.ctl_ordered.specs.Ordered as ordered
use Rattle.ctl_store.specs.Named.{at_name, change_named}
use Rattle.ctl_store.specs.State.{stanza_count}
use Rattle.ctl_store.specs.Edits.{Remove}
use Rattle.ctl_store.specs.Step.{after, remove_stanza, with_stanzas}
use Rattle.ctl_store.specs.Keys.{stanza_lists, remove_keyed, keyed_after}
use Rattle.ctl_store.specs.Store.{lists_of, state_of, keyed_of}
use Rattle.ctl_store.specs.Inside.Sound.{IsSound}
use Rattle.ctl_store.proofs.ListedLemmas.{Changes-remove, change_lists, remove_list}
use Rattle.ctl_store.proofs.SoundLemmas.{sound_change, remove_keeps}
use Rattle.ctl_store.proofs.AcceptLemmas.{remove_found, remove_count, count_below}
use Rattle.ctl_store.proofs.store.Store.remove.Goals as goal

pub overflow_sub-self : goal.overflow_sub-self
overflow_sub-self c =
    let h = c.args.self.now in
    let f = remove_found h.limits (state_of h) c.args.list c.args.«package» c.args.version c.requires.accepted in
    let held = ap (λ h. stanza_count (state_of h).lists) c.self.view_is in
    omega (arith, remove_count h.limits (state_of h) c.args.list c.args.«package» c.args.version f.0 c.requires.accepted f.1, count_below (state_of h) c.args.list f.0 f.1, c.self.invariant.counted, held)

pub invariant_of-self : goal.invariant_of-self
invariant_of-self c =
    let s = c.self.inside in
    let h = c.args.self.now in
    let list = c.args.list in
    let name = c.args.«package» in
    let version = c.args.version in
    let f = remove_found h.limits (state_of h) list name version c.requires.accepted in
    let count = remove_count h.limits (state_of h) list name version f.0 c.requires.accepted f.1 in
    let held = ap (λ h. stanza_count (state_of h).lists) c.self.view_is in
    let lists = c.remove_in.ensures.lists ∙ ap (λ n. change_named list (remove_keyed n (Some version)) (lists_of (ordered.entries s.lists))) c.as_slice.ensures in
    subst (λ m. IsSound c.remove_in.new.lists.filled m s.next_list s.statuses (s.stanzas - 1) (s.edits + 1) s.limits s.marks.next s.pins.next) (sym c.remove_in.ensures.next)
    (sound_change c.self.invariant c.remove_in.new.lists.filled list f.0 (remove_keyed name (Some version)) (with_stanzas (remove_stanza name (Some version))) (s.stanzas - 1) (Changes-remove name (Some version)) (λ k. refl) (remove_list name (Some version)) (remove_keeps name (Some version) (at_name list (stanza_lists (lists_of (ordered.entries s.lists))))) (c.remove_in.ensures.numbered c.self.invariant.numbered) lists
    (ap (λ h. at_name list (state_of h).lists) c.self.view_is ∙ f.1)
    (omega (arith, count, count_below (state_of h) list f.0 f.1, c.self.invariant.counted, held))
    (omega (arith, c.self.invariant.within)))

pub returns : goal.returns
returns c =
    let s = c.self.inside in
    let list = c.args.list in
    let name = c.args.«package» in
    let version = c.args.version in
    let lists = c.remove_in.ensures.lists ∙ ap (λ n. change_named list (remove_keyed n (Some version)) (lists_of (ordered.entries s.lists))) c.as_slice.ensures in
    record {
      state =
          (λ j. record { lists = (ap stanza_lists lists ∙ change_lists list (remove_keyed name (Some version)) (with_stanzas (remove_stanza name (Some version))) (remove_list name (Some version)) (lists_of (ordered.entries s.lists))) j; marks = fin.from_entries (ordered.entries s.marks); pins = s.pins.pins; target = s.target; edits = s.edits + 1 })
          ∙ ap (λ h. after (state_of h) (Remove list name version)) c.self.view_is;
      keyed = (λ j. record { lists = lists j; next_list = s.next_list }) ∙ ap (λ h. keyed_after (keyed_of h) (Remove list name version)) c.self.view_is;
      limits = ap (λ h. h.limits) c.self.view_is;
    }
