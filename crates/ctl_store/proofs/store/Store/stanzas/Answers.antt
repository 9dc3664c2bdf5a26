use Rattle.std.proofs.Common.{rules, ◌≡◌, ◌∙◌, ◌+◌, Some, map, ap, subst, sym}
use Rattle.ctl_ordered.specs.Ordered as ordered
use Rattle.ctl_store.specs.Keys.{AreHeld, all_in, stanza_at, stanza_lists}
use Rattle.ctl_store.specs.State.{stanzas_named}
use Rattle.ctl_store.specs.Store.{lists_of}
use Rattle.ctl_store.proofs.ListedLemmas.{at_name_lists}
use Rattle.ctl_store.proofs.KeyLemmas.{keys_find, keys_held}
use Rattle.ctl_store.proofs.store.Store.stanzas.Goals as goal

pub returns-in-Some-clause-keys : goal.returns-in-Some-clause-keys
returns-in-Some-clause-keys c = search (rules, at_name_lists)

pub returns-in-Some-clause-held : goal.returns-in-Some-clause-held
returns-in-Some-clause-held c =
    let ls = lists_of c.args.self.now.lists in
    subst (λ ks. AreHeld ks ls) (sym (returns-in-Some-clause-keys c)) (keys_held c.args.list.now ls)

pub returns-in-Some-clause-stanzas : goal.returns-in-Some-clause-stanzas
returns-in-Some-clause-stanzas c =
    let s = c.self.inside in
    let ls = lists_of c.args.self.now.lists in
    let found = subst (λ h. map (λ key. stanza_at key (lists_of h.lists)) (all_in c.args.list.now (lists_of h.lists)) ≡ map Some (stanzas_named c.args.list.now (stanza_lists (lists_of h.lists)))) c.self.view_is
    (keys_find c.args.list.now 0 (lists_of (ordered.entries s.lists)) s.next_list (s.limits.stanzas + s.edits) c.self.invariant.order) in
    ap (λ ks. map (λ key. stanza_at key ls) ks) (returns-in-Some-clause-keys c) ∙ found

pub returns-in-None-clause-keys : goal.returns-in-None-clause-keys
returns-in-None-clause-keys c = search (rules, at_name_lists)

pub returns-in-None-clause-stanzas : goal.returns-in-None-clause-stanzas
returns-in-None-clause-stanzas c =
    let s = c.self.inside in
    let ls = lists_of c.args.self.now.lists in
    let found = subst (λ h. map (λ key. stanza_at key (lists_of h.lists)) (all_in c.args.list.now (lists_of h.lists)) ≡ map Some (stanzas_named c.args.list.now (stanza_lists (lists_of h.lists)))) c.self.view_is
    (keys_find c.args.list.now 0 (lists_of (ordered.entries s.lists)) s.next_list (s.limits.stanzas + s.edits) c.self.invariant.order) in
    ap (λ ks. map (λ key. stanza_at key ls) ks) (returns-in-None-clause-keys c) ∙ found
