use Rattle.std.proofs.Common.{◌+◌, ◌∙◌, ap, sym}
use Rattle.ctl_ordered.specs.Ordered as ordered
use Rattle.ctl_store.specs.Keys.{stanza_at}
use Rattle.ctl_store.specs.Store.{lists_of}
use Rattle.ctl_store.proofs.KeyLemmas.{look_up, in_entry}
use Rattle.ctl_store.proofs.FollowedLemmas.{stanza_under}
use Rattle.ctl_store.proofs.store.Store.find.Goals as goal

pub entry_of-requires : goal.entry_of-requires
entry_of-requires c = c.self.invariant.numbered

pub returns-in-Some-clause-stanza : goal.returns-in-Some-clause-stanza
returns-in-Some-clause-stanza c =
    let s = c.self.inside in
    let k = c.args.key in
    let found = c.in-Some.ensures in
    c.stanza.ensures
    ∙ sym (sym (ap (λ h. stanza_at k (lists_of h.lists)) c.self.view_is) ∙ look_up k 0 (ordered.entries s.lists) s.next_list (s.limits.stanzas + s.edits) c.self.invariant.order ∙ ap (in_entry k) (sym found))

pub returns-in-None-clause-stanza : goal.returns-in-None-clause-stanza
returns-in-None-clause-stanza c =
    let s = c.self.inside in
    let k = c.args.key in
    let none = c.in-None.ensures in
    sym (sym (ap (λ h. stanza_at k (lists_of h.lists)) c.self.view_is) ∙ look_up k 0 (ordered.entries s.lists) s.next_list (s.limits.stanzas + s.edits) c.self.invariant.order ∙ ap (in_entry k) (sym none))

pub returns-in-Some-clause-entry : goal.returns-in-Some-clause-entry
returns-in-Some-clause-entry c = returns-in-Some-clause-stanza c ∙ stanza_under c.args.key (lists_of c.args.self.now.lists)

pub returns-in-None-clause-entry : goal.returns-in-None-clause-entry
returns-in-None-clause-entry c = returns-in-None-clause-stanza c ∙ stanza_under c.args.key (lists_of c.args.self.now.lists)
