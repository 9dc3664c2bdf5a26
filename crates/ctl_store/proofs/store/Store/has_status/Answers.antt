use Rattle.std.proofs.Common.{◌∙◌, ap, sym, nat_lt}
use Rattle.ctl_ordered.specs.Ordered as ordered
use Rattle.ctl_store.specs.Step.{has_status}
use Rattle.ctl_store.specs.Keys.{stanza_lists}
use Rattle.ctl_store.specs.Store.{lists_of}
use Rattle.ctl_store.proofs.AcceptLemmas.{has_status-counted}
use Rattle.ctl_store.proofs.store.Store.has_status.Goals as goal

pub returns : goal.returns
returns c =
    let ls = stanza_lists (lists_of (ordered.entries c.self.inside.lists)) in
    ap (nat_lt 0) c.self.invariant.statuses_counted ∙ sym (has_status-counted ls) ∙ ap (λ h. has_status (stanza_lists (lists_of h.lists))) c.self.view_is
