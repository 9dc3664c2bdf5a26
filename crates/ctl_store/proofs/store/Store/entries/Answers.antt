use Rattle.std.proofs.Common.{◌∙◌, ◌+◌, ap, sym, subst}
use Rattle.ctl_ordered.specs.Ordered as ordered
use Rattle.ctl_store.specs.Keys.{AreRising, all_keys}
use Rattle.ctl_store.specs.Entries.{entries_of, entry_keys, AreAt}
use Rattle.ctl_store.specs.Store.{lists_of}
use Rattle.ctl_store.proofs.KeyLemmas.{keys_rise}
use Rattle.ctl_store.proofs.EntryLemmas.{keys_are_all, entries_found}
use Rattle.ctl_store.proofs.store.Store.entries.Goals as goal

pub returns-clause-entries : goal.returns-clause-entries
returns-clause-entries c = c.new.ensures ∙ ap (λ l. entries_of (lists_of l)) (c.iter.ensures.entries ∙ ap (λ h. h.lists) c.self.view_is)

pub returns-clause-stanzas : goal.returns-clause-stanzas
returns-clause-stanzas c =
    let s = c.self.inside in
    subst (λ es. AreAt es (lists_of c.args.self.now.lists)) (sym (returns-clause-entries c))
    (subst (λ h. AreAt (entries_of (lists_of h.lists)) (lists_of h.lists)) c.self.view_is (entries_found 0 (lists_of (ordered.entries s.lists)) s.next_list (s.limits.stanzas + s.edits) c.self.invariant.order))

pub returns-clause-order : goal.returns-clause-order
returns-clause-order c =
    let s = c.self.inside in
    subst AreRising (sym (ap entry_keys (returns-clause-entries c) ∙ keys_are_all (lists_of c.args.self.now.lists)))
    (subst (λ h. AreRising (all_keys (lists_of h.lists))) c.self.view_is (keys_rise 0 (lists_of (ordered.entries s.lists)) s.next_list (s.limits.stanzas + s.edits) c.self.invariant.order))
