use Rattle.std.proofs.Common.{◌∙◌, ap, sym, subst}
use Rattle.std.specs.List.{IsDistinct}
use Rattle.std.specs.Str.{bytes_eq}
use Rattle.std.specs.Map.{keys_of as names_of}
use Rattle.ctl_store.specs.State.{shown_lists}
use Rattle.ctl_store.specs.Keys.{stanza_lists}
use Rattle.ctl_store.specs.Kinds.{KeepKinds}
use Rattle.ctl_store.specs.Store.{lists_of, state_of}
use Rattle.ctl_store.proofs.ListedLemmas.{shown_entries, names_held}
use Rattle.ctl_store.proofs.store.Store.lists.Goals as goal

pub returns : goal.returns
returns c = record {
  lists = shown_entries c.iter-entries.result ∙ ap (λ l. shown_lists (stanza_lists (lists_of l))) (c.iter-entries.ensures.entries ∙ ap (λ h. h.lists) c.self.view_is);
  distinct = subst (IsDistinct bytes_eq) (ap (λ h. names_of h.lists) c.self.view_is ∙ sym (names_held c.args.self.now.lists)) c.iter-entries.ensures.each_once;
  kinds = subst (λ h. KeepKinds (state_of h).lists) c.self.view_is c.self.invariant.kinds;
}
