use Rattle.std.proofs.Common.{◌≡◌, ℕ, ◌+◌, ◌-◌, ◌∙◌, ap, sym, subst, length, List, Some, arith}
use Rattle.std.specs.FinMap as fin
use Rattle.std.specs.Str.{bytes_eq}
use Rattle.ctl_ordered.specs.Ordered as ordered
use Rattle.ctl_store.specs.Named.{at_name}
use Rattle.ctl_store.specs.State.{State, StanzaList, stanza_count, status_count, count_of_kind}
use Rattle.std.specs.Option.{option_map_or}
use Rattle.ctl_store.specs.Edits.{DropList}
use Rattle.ctl_store.specs.Step.{after}
use Rattle.ctl_store.specs.Keys.{stanza_lists, keyed_after}
use Rattle.ctl_store.specs.Store.{lists_of, state_of, keyed_of}
use Rattle.ctl_store.specs.Inside.Sound.{AreNumbered, IsSound}
use Rattle.ctl_store.proofs.ListedLemmas.{lists_without, numbered_cut, without_lists}
use Rattle.ctl_store.proofs.SoundLemmas.{sound_drop}
use Rattle.ctl_store.proofs.AcceptLemmas.{kind_below, drop_found, count_below, keys_count}
use Rattle.ctl_store.proofs.store.Store.drop_list.Goals as goal

kind_is : (s : State) (name : List ℕ) (l : StanzaList) (count : ℕ) → count ≡ option_map_or (λ (l : StanzaList). count_of_kind l.kind) (at_name name s.lists) 0 → at_name name s.lists ≡ Some l → count ≡ count_of_kind l.kind
kind_is s name l count e at = e ∙ ap (λ o. option_map_or (λ (l : StanzaList). count_of_kind l.kind) o 0) at

pub overflow_sub-self-2 : goal.overflow_sub-self-2
overflow_sub-self-2 c =
    let h = c.args.self.now in
    let name = c.args.name in
    let f = drop_found h.limits (state_of h) name c.requires.accepted in
    let kind = kind_is (state_of h) name f.0 c.count_of_kind-statuses.result c.count_of_kind-statuses.ensures f.1 in
    omega (arith, kind, kind_below name (state_of h).lists f.0 f.1, c.self.invariant.statuses_counted, ap (λ h. status_count (state_of h).lists) c.self.view_is)

pub overflow_sub-self : goal.overflow_sub-self
overflow_sub-self c =
    let h = c.args.self.now in
    let f = drop_found h.limits (state_of h) c.args.name c.requires.accepted in
    let held = ap (λ h. stanza_count (state_of h).lists) c.self.view_is in
    omega (arith, c.requires.gone, keys_count c.args.name (keyed_of h).lists f.0 f.1, count_below (state_of h) c.args.name f.0 f.1, c.self.invariant.counted, held)

pub overflow_cast-self : goal.overflow_cast-self
overflow_cast-self c = omega (arith, overflow_sub-self c, c.self.invariant.within, c.self.invariant.stanzas_bounded)

pub invariant_of-self : goal.invariant_of-self
invariant_of-self c =
    let s = c.self.inside in
    let h = c.args.self.now in
    let name = c.args.name in
    let f = drop_found h.limits (state_of h) name c.requires.accepted in
    let count = c.requires.gone ∙ keys_count name (keyed_of h).lists f.0 f.1 in
    let lists = ap lists_of c.remove.ensures.entries ∙ lists_without name (ordered.entries s.lists) in
    let kind = kind_is (state_of h) name f.0 c.count_of_kind-statuses.result c.count_of_kind-statuses.ensures f.1 in
    let numbered = subst AreNumbered (sym c.remove.ensures.filled) (numbered_cut (bytes_eq name) s.lists.filled c.self.invariant.numbered) in
    subst (λ k. IsSound c.remove.new.self.filled c.remove.new.self.next s.next_list (s.statuses - k) (s.stanzas - c.args.gone) (s.edits + 1) s.limits s.marks.next s.pins.next) (sym kind)
    (subst (λ n. IsSound c.remove.new.self.filled c.remove.new.self.next s.next_list (s.statuses - count_of_kind f.0.kind) (s.stanzas - n) (s.edits + 1) s.limits s.marks.next s.pins.next) (sym count)
    (subst (λ m. IsSound c.remove.new.self.filled m s.next_list (s.statuses - count_of_kind f.0.kind) (s.stanzas - length f.0.stanzas) (s.edits + 1) s.limits s.marks.next s.pins.next) (sym c.remove.ensures.next)
    (sound_drop c.self.invariant c.remove.new.self.filled name f.0 numbered lists (ap (λ h. at_name name (state_of h).lists) c.self.view_is ∙ f.1))))

pub returns : goal.returns
returns c =
    let s = c.self.inside in
    let name = c.args.name in
    let lists = ap lists_of c.remove.ensures.entries ∙ lists_without name (ordered.entries s.lists) in
    record {
      state =
          (λ j. record { lists = (ap stanza_lists lists ∙ without_lists name (lists_of (ordered.entries s.lists))) j; marks = fin.from_entries (ordered.entries s.marks); pins = s.pins.pins; target = s.target; edits = s.edits + 1 })
          ∙ ap (λ h. after (state_of h) (DropList name)) c.self.view_is;
      keyed = (λ j. record { lists = lists j; next_list = s.next_list }) ∙ ap (λ h. keyed_after (keyed_of h) (DropList name)) c.self.view_is;
      limits = ap (λ h. h.limits) c.self.view_is;
    }
