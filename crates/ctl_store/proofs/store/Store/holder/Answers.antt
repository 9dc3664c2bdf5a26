use Rattle.std.proofs.Common.{◌≡◌, ℕ, List, Some, option_map, IfSome, IsSome, ◌∙◌, ap, sym, subst, ◌+◌}
use Rattle.ctl_ordered.specs.Ordered as ordered
use Rattle.ctl_stanza.specs.Content.{Content}
use Rattle.ctl_store.specs.Keys.{stanza_at, stanza_lists, list_at, holder_of}
use Rattle.ctl_store.specs.Named.{at_name}
use Rattle.ctl_store.specs.State.{StanzaList}
use Rattle.ctl_store.proofs.ListedLemmas.{list_named}
use Rattle.ctl_store.specs.Store.{HeldList, lists_of}
use Rattle.ctl_store.specs.Inside.Sound.{entry_of}
use Rattle.ctl_store.proofs.KeyLemmas.{look_up, list_at_entry, not_none, in_entry, holder_is, kind_at, each_kind}
use Rattle.ctl_store.proofs.store.Store.holder.Goals as goal

pub entry_of-requires : goal.entry_of-requires
entry_of-requires c = c.self.invariant.numbered

pub unreachable-requires : goal.unreachable-requires
unreachable-requires c =
    let s = c.self.inside in
    let k = c.args.key in
    let none = c.in-None.ensures in
    not_none (stanza_at k (lists_of c.args.self.now.lists)) c.requires
    (sym (ap (λ h. stanza_at k (lists_of h.lists)) c.self.view_is) ∙ look_up k 0 (ordered.entries s.lists) s.next_list (s.limits.stanzas + s.edits) c.self.invariant.order ∙ ap (in_entry k) (sym none))

pub returns : goal.returns
returns c =
    let s = c.self.inside in
    let k = c.args.key in
    let found = c.in-Some.ensures in
    let at = sym (ap (λ h. stanza_at k (lists_of h.lists)) c.self.view_is) ∙ look_up k 0 (ordered.entries s.lists) s.next_list (s.limits.stanzas + s.edits) c.self.invariant.order ∙ ap (in_entry k) (sym found) in
    let named = sym (ap (λ h. at_name c.in-Some.name.now (stanza_lists (lists_of h.lists))) c.self.view_is) ∙ list_named k.list (ordered.entries s.lists) _ c.iter-entries.ensures.each_once found in
    record {
      name = ap (option_map (λ (e : List ℕ × HeldList). e.0)) found ∙ sym (list_at_entry k.list (ordered.entries s.lists)) ∙ ap (λ h. list_at k.list (lists_of h.lists)) c.self.view_is
          ∙ sym (ap (λ h. holder_of k (lists_of h.lists)) (sym c.self.view_is) ∙ holder_is k 0 (ordered.entries s.lists) s.next_list (s.limits.stanzas + s.edits) c.self.invariant.order (subst (λ h. IsSome (stanza_at k (lists_of h.lists))) (sym c.self.view_is) c.requires) ∙ ap (λ h. list_at k.list (lists_of h.lists)) c.self.view_is);
      names = λ k same there. ap (λ h. holder_of k (lists_of h.lists)) (sym c.self.view_is) ∙ holder_is k 0 (ordered.entries s.lists) s.next_list (s.limits.stanzas + s.edits) c.self.invariant.order (subst (λ h. IsSome (stanza_at k (lists_of h.lists))) (sym c.self.view_is) there)
          ∙ ap (λ n. list_at n (lists_of (ordered.entries s.lists))) same ∙ list_at_entry c.args.key.list (ordered.entries s.lists) ∙ ap (option_map (λ (e : List ℕ × HeldList). e.0)) (sym found);
      kind_named = ap (option_map (λ (l : StanzaList). l.kind)) named ∙ ap Some (sym c.kind.ensures);
      class_named = ap (option_map (λ (l : StanzaList). l.class)) named ∙ ap Some (sym c.class.ensures);
      kinds = λ k same. subst (λ h. IfSome (stanza_at k (lists_of h.lists)) (λ (x : Content). x.kind ≡ c.kind.result)) c.self.view_is
          (subst (λ kind. IfSome (stanza_at k (lists_of (ordered.entries s.lists))) (λ (x : Content). x.kind ≡ kind)) (sym c.kind.ensures)
          (each_kind k 0 (ordered.entries s.lists) s.next_list (s.limits.stanzas + s.edits) _ c.self.invariant.order c.self.invariant.kinds (ap (λ n. entry_of n (ordered.entries s.lists)) same ∙ sym found)));
      kind = ap Some c.kind.ensures ∙ kind_at k (ordered.entries s.lists) _ c.self.invariant.kinds (sym found) (subst IsSome at c.requires) ∙ sym (ap (option_map (λ (x : Content). x.kind)) at);
    }
