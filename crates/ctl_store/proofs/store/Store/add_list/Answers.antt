use Rattle.std.proofs.Common.{◌≡◌, ◌+◌, ◌∷◌, ◌++◌, [], ◌∙◌, ap, sym, subst, map, length, arith}
use Rattle.std.specs.FinMap as fin
use Rattle.ctl_ordered.specs.Ordered as ordered
use Rattle.std.specs.Str.{bytes_eq}
use Rattle.ctl_ordered.specs.Ordered.{next_put, filled_put}
use Rattle.ctl_store.specs.Named.{at_name, has_name}
use Rattle.ctl_store.specs.State.{stanza_count, status_count, count_of_kind}
use Rattle.ctl_store.specs.Edits.{AddList}
use Rattle.ctl_store.specs.Step.{after}
use Rattle.ctl_store.specs.Keys.{KeyedList, stanza_lists, list_of_stanzas, keyed_after}
use Rattle.ctl_store.specs.Store.{lists_of, keyed_list, state_of, keyed_of}
use Rattle.ctl_store.specs.Inside.Sound.{AreNumbered, IsSound}
use Rattle.ctl_store.proofs.PlaceLemmas.{none_is}
use Rattle.ctl_store.proofs.ListedLemmas.{has_name_lists, lists_put_new, numbered_last, new_lists}
use Rattle.ctl_store.proofs.SoundLemmas.{sound_add}
use Rattle.ctl_store.proofs.AcceptLemmas.{add_statuses, add_new, add_fits, new_among}
use Rattle.ctl_store.proofs.store.Store.add_list.Goals as goal
use Rattle.std.proofs.lemmas.List.{length-map}

pub overflow_cast-count : goal.overflow_cast-count
overflow_cast-count c =
    let h = c.args.self.now in
    omega (arith, c.len-count.ensures, add_fits h.limits (state_of h) c.args.name c.args.list.kind c.args.list.class (map (λ stanza. stanza.value) c.args.list.stanzas.items) c.requires.accepted, length-map c.args.list.stanzas.items (λ stanza. stanza.value), c.self.invariant.stanzas_bounded, ap (λ h. h.limits.stanzas) c.self.view_is)

pub overflow_add-self-2 : goal.overflow_add-self-2
overflow_add-self-2 c =
    let h = c.args.self.now in
    let held = ap (λ h. stanza_count (state_of h).lists) c.self.view_is in
    omega (arith, c.len-count.ensures, add_fits h.limits (state_of h) c.args.name c.args.list.kind c.args.list.class (map (λ stanza. stanza.value) c.args.list.stanzas.items) c.requires.accepted, length-map c.args.list.stanzas.items (λ stanza. stanza.value), c.self.invariant.counted, held, c.self.invariant.stanzas_bounded, ap (λ h. h.limits.stanzas) c.self.view_is)

pub overflow_add-self-3 : goal.overflow_add-self-3
overflow_add-self-3 c =
    let h = c.args.self.now in
    let held = ap (λ h. status_count (state_of h).lists) c.self.view_is in
    omega (arith, c.one_if_status.ensures, add_statuses h.limits (state_of h) c.args.name c.args.list.kind c.args.list.class (map (λ stanza. stanza.value) c.args.list.stanzas.items) c.requires.accepted 4294967295 (omega (arith, held, c.self.invariant.statuses_counted)) (omega arith), held, c.self.invariant.statuses_counted)

pub invariant_of-self : goal.invariant_of-self
invariant_of-self c =
    let s = c.self.inside in
    let h = c.args.self.now in
    let xs = map (λ stanza. stanza.value) c.args.list.stanzas.items in
    let long : length xs ≡ c.len-count.result = omega (arith, length-map c.args.list.stanzas.items (λ stanza. stanza.value), c.len-count.ensures) in
    let listed : keyed_list c.new-listed.result ≡ list_of_stanzas s.next_list c.args.list.kind c.args.list.class xs = λ j. record { serial = c.new-listed.ensures.serial j; kind = c.new-listed.ensures.kind j; class = c.new-listed.ensures.class j; next = (c.new-listed.ensures.next ∙ sym c.len-count.ensures ∙ sym long) j; slots = c.new-listed.ensures.slots j } in
    let new = new_among c.args.name (ordered.entries s.lists) (ap (λ h. has_name c.args.name (state_of h).lists) c.self.view_is ∙ add_new h.limits (state_of h) c.args.name c.args.list.kind c.args.list.class xs c.requires.accepted) in
    let lists = ap lists_of c.put.ensures.entries ∙ lists_put_new c.args.name c.new-listed.result (ordered.entries s.lists) new ∙ ap (λ (l : KeyedList). lists_of (ordered.entries s.lists) ++ (c.args.name, l) ∷ []) listed in
    let none = none_is (at_name c.args.name (ordered.entries s.lists)) (sym (has_name_lists c.args.name (ordered.entries s.lists)) ∙ new) in
    let filled = c.put.ensures.filled ∙ ap (λ o. filled_put o (bytes_eq c.args.name) s.lists c.args.name c.new-listed.result) none in
    let numbered = subst AreNumbered (sym filled) (numbered_last s.lists.next (c.args.name, c.new-listed.result) s.lists.filled (c.self.invariant.next_is ∙ sym c.new-listed.ensures.serial) c.self.invariant.numbered) in
    let held = ap (λ h. stanza_count (state_of h).lists) c.self.view_is in
    let most = ap (λ h. h.limits.stanzas) c.self.view_is in
    subst (λ k. IsSound c.put.new.self.filled c.put.new.self.next (s.next_list + 1) (s.statuses + k) (s.stanzas + c.len-count.result) (s.edits + 1) s.limits s.marks.next s.pins.next) (sym c.one_if_status.ensures)
    (subst (λ n. IsSound c.put.new.self.filled c.put.new.self.next (s.next_list + 1) (s.statuses + count_of_kind c.args.list.kind) (s.stanzas + n) (s.edits + 1) s.limits s.marks.next s.pins.next) long
    (subst (λ m. IsSound c.put.new.self.filled m (s.next_list + 1) (s.statuses + count_of_kind c.args.list.kind) (s.stanzas + length xs) (s.edits + 1) s.limits s.marks.next s.pins.next) (sym (c.put.ensures.next ∙ ap (λ o. next_put o s.lists) none))
    (sound_add c.self.invariant c.put.new.self.filled c.args.name c.args.list.kind c.args.list.class xs c.requires.kinds numbered lists
    (omega (arith, add_fits h.limits (state_of h) c.args.name c.args.list.kind c.args.list.class xs c.requires.accepted, c.self.invariant.counted, held, most)))))

pub returns : goal.returns
returns c =
    let s = c.self.inside in
    let h = c.args.self.now in
    let xs = map (λ stanza. stanza.value) c.args.list.stanzas.items in
    let long : length xs ≡ c.len-count.result = omega (arith, length-map c.args.list.stanzas.items (λ stanza. stanza.value), c.len-count.ensures) in
    let listed : keyed_list c.new-listed.result ≡ list_of_stanzas s.next_list c.args.list.kind c.args.list.class xs = λ j. record { serial = c.new-listed.ensures.serial j; kind = c.new-listed.ensures.kind j; class = c.new-listed.ensures.class j; next = (c.new-listed.ensures.next ∙ sym c.len-count.ensures ∙ sym long) j; slots = c.new-listed.ensures.slots j } in
    let new = new_among c.args.name (ordered.entries s.lists) (ap (λ h. has_name c.args.name (state_of h).lists) c.self.view_is ∙ add_new h.limits (state_of h) c.args.name c.args.list.kind c.args.list.class xs c.requires.accepted) in
    let lists = ap lists_of c.put.ensures.entries ∙ lists_put_new c.args.name c.new-listed.result (ordered.entries s.lists) new ∙ ap (λ (l : KeyedList). lists_of (ordered.entries s.lists) ++ (c.args.name, l) ∷ []) listed in
    record {
      state =
          (λ j. record { lists = (ap stanza_lists lists ∙ new_lists (lists_of (ordered.entries s.lists)) c.args.name s.next_list c.args.list.kind c.args.list.class xs) j; marks = fin.from_entries (ordered.entries s.marks); pins = s.pins.pins; target = s.target; edits = s.edits + 1 })
          ∙ ap (λ h. after (state_of h) (AddList c.args.name c.args.list.kind c.args.list.class xs)) c.self.view_is;
      keyed = (λ j. record { lists = lists j; next_list = s.next_list + 1 }) ∙ ap (λ h. keyed_after (keyed_of h) (AddList c.args.name c.args.list.kind c.args.list.class xs)) c.self.view_is;
      limits = ap (λ h. h.limits) c.self.view_is;
    }
