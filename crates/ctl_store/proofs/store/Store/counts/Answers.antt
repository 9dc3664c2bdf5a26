use Rattle.std.proofs.Common.{subst, ◌+◌}
use Rattle.ctl_ordered.specs.Ordered as ordered
use Rattle.ctl_store.specs.Keys.{AreRising, all_keys}
use Rattle.ctl_store.specs.Store.{lists_of}
use Rattle.ctl_store.proofs.KeyLemmas.{keys_rise}
use Rattle.ctl_store.proofs.store.Store.counts.Goals as goal

pub returns-clause-order : goal.returns-clause-order
returns-clause-order c =
    let s = c.self.inside in
    subst (λ h. AreRising (all_keys (lists_of h.lists))) c.self.view_is (keys_rise 0 (lists_of (ordered.entries s.lists)) s.next_list (s.limits.stanzas + s.edits) c.self.invariant.order)
